-- which entries may be members: the test and what it tells, and such entries by their kinds and shapes
use Rattle.std.specs.Prelude.{◌≡◌, ◌≢◌, ◌⊎◌, [], ◌∷◌, Bool, false, not, ℕ, zero, suc, ◌<◌, eqb, length}
use Rattle.std.proofs.Common.{ap, inl, inr, arith}
use Rattle.std.proofs.lemmas.Bool.{false≢true}
use Rattle.std.proofs.Math.Decide.{dec_lt}
use Rattle.std.proofs.Math.ListN.{get_or-eq_default}
use Rattle.verdict.specs.Tells.{Tells, tells_as, not_tells, eqb_tells}
use Rattle.formula.specs.Kind
use Rattle.formula.specs.Table.{Table, Entry, blank, kind}
use Rattle.formula.specs.Shape.{name, shape, NoName}
use Rattle.formula.specs.Codes.{Formula}
use Rattle.formula.specs.TableLaws.{name_or_not}
use Rattle.formula.specs.ShapeLaws.{name_kind}

-- an entry of the table that is no name
unfoldable pub is_formula : Table → ℕ → Bool
is_formula [] e = false
is_formula (x ∷ t) zero = not (eqb x.kind Kind.NAME)
is_formula (x ∷ t) (suc e) = is_formula t e

pub formula_tells : (t : Table) (e : ℕ) → Tells (is_formula t e) (Formula t e)
unfolding is_formula
formula_tells [] e = record { says = λ h. absurd (false≢true h); holds = λ f. absurd (omega (arith, f.inside)) }
formula_tells (x ∷ t) zero = tells_as (λ n. record { inside = omega arith; no_name = n }) (λ f. f.no_name) (not_tells (eqb_tells x.kind Kind.NAME))
formula_tells (x ∷ t) (suc e) =
    tells_as (λ f. record { inside = omega (arith, f.inside); no_name = f.no_name }) (λ f. record { inside = omega (arith, f.inside); no_name = f.no_name })
    (formula_tells t e)

-- what is of a kind but false lies in the table; what is also no name may be a member
pub kind_formula : (t : Table) (e : ℕ) → kind t e ≢ Kind.FALSE → kind t e ≢ Kind.NAME → Formula t e
kind_formula t e n m = record { inside = go (dec_lt e (length t)); no_name = m }
  where
    go : Dec (e < length t) → e < length t
    go (yes l) = l
    go (no l) = absurd (n (ap (λ (r : Entry). r.kind) (get_or-eq_default t blank (omega arith))))

pub formula_shape : (t : Table) (e : ℕ) → Formula t e → NoName (shape t e)
formula_shape t e F = go (name_or_not (shape t e))
  where
    go : ((x : ℕ) × (shape t e ≡ name x)) ⊎ NoName (shape t e) → NoName (shape t e)
    go (inl (x, q)) = absurd (F.no_name (name_kind t e q))
    go (inr n) = n
