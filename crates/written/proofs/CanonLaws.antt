-- an entry's number is that of an entry with the same formula, and tells it
use Rattle.std.specs.Prelude.{◌≡◌, ℕ, ◌<◌, length}
use Rattle.std.proofs.Common.{sym, ◌∙◌, arith}
use Rattle.std.proofs.Math.Path.{ap}
use Rattle.formula.specs.Table.{Table}
use Rattle.formula.specs.Codes.{Formula}
use Rattle.formula.specs.Shape.{shape, NoName}
use Rattle.formula.specs.ShapeLaws.{name_shape}
use Rattle.formula.specs.Target.{target}
use Rattle.formula.specs.TableLaws.{fix_in, target_by}
use Rattle.conditions.specs.WellFormed.{WellFormed}
use Rattle.conditions.specs.WellFormedLaws.{name_fix}
use Rattle.written.specs.Written.{written, SameFormula}
use Rattle.written.proofs.WrittenLaws.{written_target}
use Rattle.written.specs.Canon.{canon}
use Rattle.written.specs.CanonLaws.{canon_has, canon_holds}

module _ (t : Table) where
  pub canon_formula : (e : ℕ) → Formula t e → Formula t (canon t e)
  canon_formula e F = (canon_has t e F).0

  pub canon_written : (e : ℕ) → Formula t e → SameFormula t e (canon t e)
  canon_written e F = (canon_has t e F).1

  -- entries are the same formula just when their numbers are equal
  pub canon_says : (e f : ℕ) → Formula t e → Formula t f → canon t e ≡ canon t f → SameFormula t e f
  canon_says e f E F q = canon_written e E ∙ ap (written t) q ∙ sym (canon_written f F)

  real : (e : ℕ) → e < length t → NoName (shape t e) → Formula t e
  real e h n = record { inside = h; no_name = λ q. absurd (rw (name_shape t e q) at n) }

  -- a name has the number of its fixpoint
  pub canon_inside : WellFormed t → (e : ℕ) → e < length t → canon t e < length t
  canon_inside wf e h =
      let F = target_by t e (Formula t) (real e h) (λ x q. let (σ, a, s) = name_fix t wf e x q in real x (fix_in t x a σ s) (rw s tt)) in
      omega (arith, canon_holds t e (target t e) (written_target t wf e), (canon_formula (target t e) F).inside)
