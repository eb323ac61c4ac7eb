-- entries of the same formula, no names, have one shape, over targets of the same formulas
use Rattle.std.specs.Prelude.{◌≡◌, refl, [], ◌∷◌, ℕ}
use Rattle.std.proofs.Common.{sym, ap₂, ◌∙◌, suc-ne-zero}
use Rattle.formula.specs.Table.{Table}
use Rattle.formula.specs.Shape.{Shape, leaf, two, step, fix, name, shape, NoName}
use Rattle.formula.specs.Target.{target}
use Rattle.conditions.specs.WellFormed.{WellFormed}
use Rattle.written.specs.Form.{Form}
use Rattle.written.specs.Written.{SameFormula}
use Rattle.written.specs.WrittenLaws.{below, shaped}
use Rattle.written.proofs.WrittenLaws.{written_shape, written_target}
use Rattle.written.specs.Unfolding.{inst}
use Rattle.written.proofs.Unfolding.{written_body}
use Rattle.written.specs.SameShape.{Like}

module _ (t : Table) (wf : WellFormed t) where
  -- bodies of fixpoints of the same formula
  same_bodies : (e f a c : ℕ) → SameFormula t e f → below t a (e ∷ []) ≡ below t c (f ∷ []) → SameFormula t (target t a) (target t c)
  same_bodies e f a c q r =
      sym (written_target t wf a) ∙ written_body t wf e a ∙ ap₂ {C = Form} (inst 0) q r ∙ sym (written_body t wf f c) ∙ written_target t wf c

  like_shapes : (e f : ℕ) → SameFormula t e f → (v w : Shape) → NoName v → NoName w → shaped t wf e v ≡ shaped t wf f w → Like t wf v w
  unfolding shaped
  like_shapes e f s (leaf l) (leaf k) p r q = cc
  like_shapes e f s (leaf l) (two o c d) p r q = absurd (suc-ne-zero 0 cc)
  like_shapes e f s (leaf l) (step m c) p r q = absurd (suc-ne-zero 0 cc)
  like_shapes e f s (leaf l) (fix σ c) p r q = absurd (suc-ne-zero 0 cc)
  like_shapes e f s (leaf l) (name x) p r q = absurd r
  like_shapes e f s (two o a b) (leaf k) p r q = absurd (suc-ne-zero 0 cc)
  like_shapes e f s (two o a b) (two u c d) p r q = (c, d, cc, cc, cc)
  like_shapes e f s (two o a b) (step m c) p r q = absurd (suc-ne-zero 0 cc)
  like_shapes e f s (two o a b) (fix σ c) p r q = absurd (suc-ne-zero 0 cc)
  like_shapes e f s (two o a b) (name x) p r q = absurd r
  like_shapes e f s (step m a) (leaf k) p r q = absurd (suc-ne-zero 0 cc)
  like_shapes e f s (step m a) (two u c d) p r q = absurd (suc-ne-zero 0 cc)
  like_shapes e f s (step m a) (step k c) p r q = (c, cc, cc)
  like_shapes e f s (step m a) (fix σ c) p r q = absurd (suc-ne-zero 0 cc)
  like_shapes e f s (step m a) (name x) p r q = absurd r
  like_shapes e f s (fix σ a) (leaf k) p r q = absurd (suc-ne-zero 0 cc)
  like_shapes e f s (fix σ a) (two u c d) p r q = absurd (suc-ne-zero 0 cc)
  like_shapes e f s (fix σ a) (step k c) p r q = absurd (suc-ne-zero 0 cc)
  like_shapes e f s (fix σ a) (fix τ c) p r q = (c, cc, same_bodies e f a c s cc)
  like_shapes e f s (fix σ a) (name x) p r q = absurd r
  like_shapes e f s (name x) w p r q = absurd p

  pub like : (e f : ℕ) → SameFormula t e f → {v : Shape} → shape t e ≡ v → NoName v → NoName (shape t f) → Like t wf v (shape t f)
  like e f s {v} q p r = like_shapes e f s v (shape t f) p r (sym (written_shape t wf e v q) ∙ s ∙ written_shape t wf f (shape t f) refl)
