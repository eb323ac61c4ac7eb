-- entries of the same formula, no names, have one kind, and boxes have targets of the same formula: what the axioms and rule 4 look at
use Rattle.std.specs.Prelude.{◌≡◌, ℕ}
use Rattle.formula.specs.Kind
use Rattle.formula.specs.Table.{Table, entry, kind, action}
use Rattle.formula.specs.Codes.{Formula}
use Rattle.formula.specs.Shape.{Leaf, leaf, shape}
use Rattle.formula.specs.ShapeLaws.{true_shape, letter_shape, negated_shape, box_shape, true_kind, letter_kind, negated_kind, box_kind}
use Rattle.formula.specs.Target.{target_a}
use Rattle.formula.specs.Members.{formula_shape}
use Rattle.conditions.specs.WellFormed.{WellFormed}
use Rattle.written.specs.Written.{SameFormula}
use Rattle.written.proofs.SameShape.{like}

module _ (t : Table) (wf : WellFormed t) where
  leaf_like : (e f : ℕ) {l : Leaf} → shape t e ≡ leaf l → Formula t f → SameFormula t e f → shape t f ≡ leaf l
  leaf_like e f q F r = like t wf e f r q tt (formula_shape t f F)

  pub true_like : (e f : ℕ) → kind t e ≡ Kind.TRUE → Formula t f → SameFormula t e f → kind t f ≡ Kind.TRUE
  true_like e f q F r = true_kind t f (leaf_like e f (true_shape t e q) F r)

  -- the same letter
  pub letter_like : (e f : ℕ) → kind t e ≡ Kind.LETTER → Formula t f → SameFormula t e f
      → (kind t f ≡ Kind.LETTER) × ((entry t f).a ≡ (entry t e).a)
  letter_like e f q F r = letter_kind t f (leaf_like e f (letter_shape t e q) F r)

  pub negated_like : (e f : ℕ) → kind t e ≡ Kind.NEGATED → Formula t f → SameFormula t e f
      → (kind t f ≡ Kind.NEGATED) × ((entry t f).a ≡ (entry t e).a)
  negated_like e f q F r = negated_kind t f (leaf_like e f (negated_shape t e q) F r)

  pub box_like : (e f : ℕ) → kind t e ≡ Kind.BOX → Formula t f → SameFormula t e f
      → (kind t f ≡ Kind.BOX) × (action t f ≡ action t e) × SameFormula t (target_a t e) (target_a t f)
  box_like e f q F r =
      let (c, w, g) = like t wf e f r (box_shape t e q) tt (formula_shape t f F) in
      let (k, a, n) = box_kind t f w in
      (k, n, rw a g)
