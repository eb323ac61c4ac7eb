-- a table that is filled gives the number of each formula: the least entry, no name, with the same number
use Rattle.std.specs.Prelude.{◌≡◌, ℕ, ◌<◌}
use Rattle.std.proofs.Common.{arith}
use Rattle.std.proofs.Math.ListN.{length}
use Rattle.verdict.specs.Tells.{tells_as, eqb_tells, and_tells, not_tells, same_test}
use Rattle.formula.specs.Kind
use Rattle.formula.specs.Table.{Table, kind}
use Rattle.conditions.specs.WellFormed.{WellFormed}
use Rattle.conditions.specs.Formed.{InBounds}
use Rattle.conditions.specs.TestLaws.{free_tells}
use Rattle.written.specs.Written.{written}
use Rattle.written.specs.Canon.{least, has_form, canon}
use Rattle.written.specs.CanonLaws.{least_local, has_form_tells}
use Rattle.numbering.specs.Forms.{Fits}
use Rattle.numbering.specs.Filled.{Numbers, Filled}
use Rattle.numbering.proofs.FilledExact.{filled_exact}
use Rattle.numbering.specs.FilledCanon.{free_test, has_number}

module _ (t : Table) (wf : WellFormed t) (placed : (w : ℕ) → InBounds t w) (rep : Numbers) (on : ℕ → ℕ → Type 0)
    (F : Filled t (free_test t) rep on) (all : (k e : ℕ) → Fits t (free_test t) k e → on k e) where
  pub table_canon : (e : ℕ) → e < length t → least (has_number t (rep 0) e) (length t) 0 ≡ canon t e
  unfolding canon has_number has_form
  table_canon e E = least_local (has_number t (rep 0) e) (has_form t (written t e)) (length t) 0 (λ f l. same f (omega arith))
    where
      same : (f : ℕ) → f < length t → has_number t (rep 0) e f ≡ has_form t (written t e) f
      same f G =
          let (into, from) = filled_exact t wf (free_test t) (free_tells t placed) rep on F all e f E G in
          let number_tells = and_tells (not_tells (eqb_tells (kind t f) Kind.NAME)) (tells_as into from (eqb_tells (rep 0 e) (rep 0 f))) in
          same_test number_tells (has_form_tells t (written t e) f)
