-- a shape of the same kind, over targets of the same formulas
use Rattle.std.specs.Prelude.{◌≡◌, ℕ}
use Rattle.formula.specs.Table.{Table}
use Rattle.formula.specs.Shape.{Shape, leaf, two, step, fix, name, shape, NoName}
use Rattle.formula.specs.Target.{target}
use Rattle.formula.specs.TableLaws.{target_by}
use Rattle.conditions.specs.WellFormed.{WellFormed}
use Rattle.conditions.specs.WellFormedLaws.{name_fix}
use Rattle.written.specs.Written.{SameFormula}

module _ (t : Table) (wf : WellFormed t) where
  pub target_no_name : (e : ℕ) → NoName (shape t (target t e))
  target_no_name e = target_by t e (λ d. NoName (shape t d)) (λ n. n) (λ x q. let (σ, a, p) = name_fix t wf e x q in rw p tt)

  -- w is of the shape v, over targets of the same formulas
  abbrev pub Like : Shape → Shape → Type 0
  Like (leaf l) w = w ≡ leaf l
  Like (two o a b) w = (c : ℕ) × (d : ℕ) × (w ≡ two o c d) × SameFormula t (target t a) (target t c) × SameFormula t (target t b) (target t d)
  Like (step m a) w = (c : ℕ) × (w ≡ step m c) × SameFormula t (target t a) (target t c)
  Like (fix σ a) w = (c : ℕ) × (w ≡ fix σ c) × SameFormula t (target t a) (target t c)
  Like (name x) w = ⊥
