-- entries past the end of a table, fixpoints and names by their shape, and the target by the shape
use Rattle.std.specs.Prelude.{◌≡◌, refl, ◌⊎◌, ℕ, ◌<◌, ◌≤◌, length}
use Rattle.std.proofs.Common.{ap, inl, inr, arith}
use Rattle.std.proofs.Math.Decide.{dec_lt}
use Rattle.std.proofs.Math.ListN.{get_or-eq_default}
use Rattle.formula.specs.Table.{Table}
use Rattle.formula.specs.Shape.{Shape, leaf, two, step, fix, name, never, Fix, shape_of, shape, Fixpoint, NoName}
use Rattle.formula.specs.Target.{target_of, target}

pub past_end : (t : Table) (e : ℕ) → length t ≤ e → shape t e ≡ leaf never
unfolding shape
past_end t e h = ap shape_of (get_or-eq_default t _ h)

pub in_table : (t : Table) (e : ℕ) → (shape t e ≡ leaf never → ⊥) → e < length t
in_table t e k = go (dec_lt e (length t))
  where
    go : Dec (e < length t) → e < length t
    go (yes h) = h
    go (no h) = absurd (k (past_end t e (omega arith)))

pub fix_in : (t : Table) (e a : ℕ) (σ : Fix) → shape t e ≡ fix σ a → e < length t
fix_in t e a σ q = in_table t e (λ p. let z : ◌≡◌ {A = ℕ} 0 1 = cc in omega arith)

pub fixpoint_is : (v : Shape) → Fixpoint v → (σ : Fix) × (a : ℕ) × (v ≡ fix σ a)
fixpoint_is (leaf l) h = absurd h
fixpoint_is (two o a b) h = absurd h
fixpoint_is (step m a) h = absurd h
fixpoint_is (fix σ a) h = (σ, a, refl)
fixpoint_is (name x) h = absurd h

pub name_or_not : (v : Shape) → ((x : ℕ) × (v ≡ name x)) ⊎ NoName v
name_or_not (leaf l) = inr tt
name_or_not (two o a b) = inr tt
name_or_not (step m a) = inr tt
name_or_not (fix σ a) = inr tt
name_or_not (name x) = inl (x, refl)

pub target_at : (t : Table) (e : ℕ) {v : Shape} → shape t e ≡ v → target t e ≡ target_of v e
unfolding target
target_at t e q = ap (λ (v : Shape). target_of v e) q

-- what holds of an entry that is no name, or of its fixpoint if it is one, holds of its target
pub target_by : (t : Table) (e : ℕ) (P : ℕ → Type 0) → (NoName (shape t e) → P e) → ((x : ℕ) → shape t e ≡ name x → P x) → P (target t e)
unfolding target
target_by t e P f g = go (shape t e) f (λ x q. g x q)
  where
    go : (v : Shape) → (NoName v → P e) → ((x : ℕ) → v ≡ name x → P x) → P (target_of v e)
    go (leaf l) f g = f tt
    go (two o a b) f g = f tt
    go (step m a) f g = f tt
    go (fix σ a) f g = f tt
    go (name x) f g = g x refl
