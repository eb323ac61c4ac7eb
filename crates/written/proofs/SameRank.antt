-- entries of the same formula are refuted within the same number of modal steps
use Rattle.std.specs.Prelude.{◌≡◌, refl, false, ℕ, ◌<◌}
use Rattle.std.proofs.Common.{sym, ◌∙◌}
use Rattle.formula.specs.Table.{Table}
use Rattle.formula.specs.Shape.{Shape, shape, NoName}
use Rattle.formula.specs.Target.{target}
use Rattle.conditions.specs.WellFormed.{WellFormed}
use Rattle.meaning.specs.States.{Model}
use Rattle.meaning.specs.Meaning.{own}
use Rattle.rank.specs.Rank.{RefutedAs, Refuted, by_leaf, by_or, by_left, by_right, by_diamond, by_box, by_nu, by_mu, refuted_by}
use Rattle.written.specs.Written.{SameFormula}
use Rattle.written.proofs.FormMeaning.{same_own}
use Rattle.written.specs.SameShape.{target_no_name}
use Rattle.written.proofs.SameShape.{like}

module _ (M : Model) (t : Table) (wf : WellFormed t) where
  -- false where the other is
  pub false_like : (e f s : ℕ) → s < M.size → SameFormula t e f → own M t e s ≡ false → own M t f s ≡ false
  false_like e f s l r h = sym (same_own M t wf e f r s l) ∙ h

  refuted_as_like : {v : Shape} {j e s : ℕ} → shape t e ≡ v → s < M.size → RefutedAs M t v j e s
      → (f : ℕ) → NoName (shape t f) → SameFormula t e f → Refuted M t j f s
  refuted_as_like {e = e} q l (by_leaf h) f n r = refuted_by M t (like t wf e f r q tt n) (by_leaf h)
  refuted_as_like {e = e} q l (by_or x y) f n r =
      let (c, d, w, g, h) = like t wf e f r q tt n in
      let first = refuted_as_like refl l x (target t c) (target_no_name t wf c) g in
      let second = refuted_as_like refl l y (target t d) (target_no_name t wf d) h in
      refuted_by M t w (by_or first second)
  refuted_as_like {e = e} q l (by_left x) f n r =
      let (c, d, w, g, h) = like t wf e f r q tt n in
      refuted_by M t w (by_left (refuted_as_like refl l x (target t c) (target_no_name t wf c) g))
  refuted_as_like {e = e} q l (by_right y) f n r =
      let (c, d, w, g, h) = like t wf e f r q tt n in
      refuted_by M t w (by_right (refuted_as_like refl l y (target t d) (target_no_name t wf d) h))
  refuted_as_like {e = e} q l (by_diamond z) f n r =
      let (c, w, g) = like t wf e f r q tt n in
      refuted_by M t w (by_diamond (λ u k. refuted_as_like refl k.0 (z u k) (target t c) (target_no_name t wf c) g))
  refuted_as_like {e = e} q l (by_box k x) f n r =
      let (c, w, g) = like t wf e f r q tt n in
      refuted_by M t w (by_box k (refuted_as_like refl k.0 x (target t c) (target_no_name t wf c) g))
  refuted_as_like {e = e} q l (by_nu x) f n r =
      let (c, w, g) = like t wf e f r q tt n in
      refuted_by M t w (by_nu (refuted_as_like refl l x (target t c) (target_no_name t wf c) g))
  refuted_as_like {e = e} {s = s} q l (by_mu h) f n r =
      let (c, w, g) = like t wf e f r q tt n in
      refuted_by M t w (by_mu (false_like e f s l r h))

  pub refuted_like : (j e f s : ℕ) → s < M.size → NoName (shape t f) → SameFormula t e f → Refuted M t j e s → Refuted M t j f s
  refuted_like j e f s l n r x = refuted_as_like refl l x f n r
