-- a rank that counts modal steps: j of them suffice to refute an entry at a state
use Rattle.std.specs.Prelude.{◌≡◌, false, ◌⊎◌, ℕ, suc, ◌<◌}
use Rattle.std.proofs.Math.Path.{refl, subst⁻¹}
use Rattle.std.proofs.Common.{◌∙◌, subst, inl, inr}
use Rattle.formula.specs.Table.{Table}
use Rattle.formula.specs.Shape.{Shape, Leaf, leaf, two, step, fix, or, and, diamond, box, mu, nu, shape}
use Rattle.formula.specs.Target.{target}
use Rattle.conditions.specs.WellFormed.{WellFormed}
use Rattle.meaning.specs.States.{Model, Successor, leaf_set}
use Rattle.meaning.specs.Meaning.{own}
use Rattle.rank.specs.FalseSets.{two_false, step_false}
use Rattle.meaning.specs.OwnLaws.{closed}
use Rattle.meaning.proofs.OwnLaws.{own_law}

module _ (M : Model) (t : Table) where
  -- entry e of a shape is refuted at s within j modal steps; no rank is kept through a mu
  pub data RefutedAs : Shape → ℕ → ℕ → ℕ → Type 0 where
    by_leaf : {j e s : ℕ} {l : Leaf} → leaf_set M l s ≡ false → RefutedAs (leaf l) j e s
    by_or : {j e s a b : ℕ}
        → RefutedAs (shape t (target t a)) j (target t a) s
        → RefutedAs (shape t (target t b)) j (target t b) s
        → RefutedAs (two or a b) j e s
    by_left : {j e s a b : ℕ} → RefutedAs (shape t (target t a)) j (target t a) s → RefutedAs (two and a b) j e s
    by_right : {j e s a b : ℕ} → RefutedAs (shape t (target t b)) j (target t b) s → RefutedAs (two and a b) j e s
    by_diamond : {j e s n a : ℕ}
        → ((u : ℕ) → Successor M n s u → RefutedAs (shape t (target t a)) j (target t a) u)
        → RefutedAs (step (diamond n) a) (suc j) e s
    by_box : {j e s n a u : ℕ} → Successor M n s u → RefutedAs (shape t (target t a)) j (target t a) u → RefutedAs (step (box n) a) (suc j) e s
    by_nu : {j e s a : ℕ} → RefutedAs (shape t (target t a)) j (target t a) s → RefutedAs (fix nu a) j e s
    by_mu : {j e s a : ℕ} → own M t e s ≡ false → RefutedAs (fix mu a) j e s

  abbrev pub Refuted : ℕ → ℕ → ℕ → Type 0
  Refuted j e s = RefutedAs (shape t e) j e s

  pub refuted_by : {v : Shape} {j e s : ℕ} → shape t e ≡ v → RefutedAs v j e s → Refuted j e s
  refuted_by {j = j} {e = e} {s = s} q r = subst⁻¹ (λ (u : Shape). RefutedAs u j e s) q r

  pub refuted_as : {v : Shape} {j e s : ℕ} → shape t e ≡ v → Refuted j e s → RefutedAs v j e s
  refuted_as {j = j} {e = e} {s = s} q r = subst (λ (u : Shape). RefutedAs u j e s) q r

  -- what passes to the targets
  pub or_refuted : {j e s a b : ℕ} → RefutedAs (two or a b) j e s → Refuted j (target t a) s × Refuted j (target t b) s
  or_refuted (by_or x y) = (x, y)

  pub and_refuted : {j e s a b : ℕ} → RefutedAs (two and a b) j e s → Refuted j (target t a) s ⊎ Refuted j (target t b) s
  and_refuted (by_left x) = inl x
  and_refuted (by_right y) = inr y

  pub diamond_refuted : {j e s n a : ℕ} → RefutedAs (step (diamond n) a) j e s
      → (u : ℕ) → Successor M n s u → (i : ℕ) × (j ≡ suc i) × Refuted i (target t a) u
  diamond_refuted (by_diamond {j = i} f) u h = (i, refl, f u h)

  pub box_refuted : {j e s n a : ℕ} → RefutedAs (step (box n) a) j e s
      → (u : ℕ) × Successor M n s u × ((i : ℕ) × (j ≡ suc i) × Refuted i (target t a) u)
  box_refuted (by_box {j = i} {u = u} h x) = (u, h, (i, refl, x))

  pub nu_refuted : {j e s a : ℕ} → RefutedAs (fix nu a) j e s → Refuted j (target t a) s
  nu_refuted (by_nu x) = x

  pub refuted_more : {v : Shape} {j e s : ℕ} → RefutedAs v j e s → RefutedAs v (suc j) e s
  refuted_more (by_leaf h) = by_leaf h
  refuted_more (by_or x y) = by_or (refuted_more x) (refuted_more y)
  refuted_more (by_left x) = by_left (refuted_more x)
  refuted_more (by_right x) = by_right (refuted_more x)
  refuted_more (by_diamond f) = by_diamond (λ u h. refuted_more (f u h))
  refuted_more (by_box h x) = by_box h (refuted_more x)
  refuted_more (by_nu x) = by_nu (refuted_more x)
  refuted_more (by_mu h) = by_mu h

  module _ (wf : WellFormed t) where
    -- false at s by the law of the shape
    from_law : (e : ℕ) (v : Shape) → shape t e ≡ v → (s : ℕ) → s < M.size → closed M t v s ≡ false → own M t e s ≡ false
    from_law e v q s l h = own_law M t wf e v q s l ∙ h

    pub refuted_false : {v : Shape} {j e s : ℕ} → shape t e ≡ v → RefutedAs v j e s → s < M.size → own M t e s ≡ false
    unfolding closed
    refuted_false {e = e} {s = s} q (by_leaf h) l = from_law e _ q s l h
    refuted_false {e = e} {s = s} q (by_or x y) l = from_law e _ q s l ((two_false or _ _ s).1 (refuted_false refl x l, refuted_false refl y l))
    refuted_false {e = e} {s = s} q (by_left x) l = from_law e _ q s l ((two_false and _ _ s).1 (inl (refuted_false refl x l)))
    refuted_false {e = e} {s = s} q (by_right x) l = from_law e _ q s l ((two_false and _ _ s).1 (inr (refuted_false refl x l)))
    refuted_false {e = e} {s = s} q (by_diamond f) l = from_law e _ q s l ((step_false M (diamond _) _ s).1 (λ u k h. refuted_false refl (f u (k, h)) k))
    refuted_false {e = e} {s = s} q (by_box {u = u} (k, h) x) l = from_law e _ q s l ((step_false M (box _) _ s).1 (u, k, h, refuted_false refl x k))
    refuted_false {e = e} {s = s} q (by_nu x) l = from_law e _ q s l (refuted_false refl x l)
    refuted_false q (by_mu h) l = h
