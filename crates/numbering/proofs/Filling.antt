-- a number that is placed as these laws ask keeps the table filled
use Rattle.std.specs.Prelude.{◌≡◌, refl, ◌⊎◌, ◌↔◌, Bool, ℕ}
use Rattle.std.proofs.Common.{sym, ap, ◌∙◌, inl, inr}
use Rattle.formula.specs.Table.{Table}
use Rattle.formula.specs.Shape.{name, shape, NoName}
use Rattle.numbering.specs.Filled.{Numbers, Alike, Operands, Filled}
use Rattle.numbering.specs.LevelLaws.{alike_no_name, alike_refl, alike_sym, alike_trans}
use Rattle.numbering.specs.Filling.{Fresh, Taken, With, alike_old, apart_old, bounds_old, closed_with, free_old, level_old}

module _ (t : Table) (is_free : ℕ → ℕ → Bool) where
  -- new has what stands in rep, and one number more
  module _ (rep new : Numbers) (on : ℕ → ℕ → Type 0) (F : Filled t is_free rep on) (k₀ e₀ : ℕ) (old : (k e : ℕ) → on k e → new k e ≡ rep k e) where
    taken_no_name : {n : ℕ} (T : Taken t is_free rep on k₀ e₀ n) → NoName (shape t T.like)
    taken_no_name T = alike_no_name t is_free rep k₀ e₀ T.like T.level

    -- the number of an entry that is no name
    abbrev Found : Type 0
    Found = Taken t is_free rep on k₀ e₀ (new k₀ e₀) ⊎ Fresh t is_free rep on k₀ e₀ (new k₀ e₀)

    module _ (real : NoName (shape t e₀)) (kids : Operands t is_free on k₀ e₀ (shape t e₀)) where
      -- against one that stands
      against : Found → (f : ℕ) → on k₀ f → NoName (shape t f) → (new k₀ e₀ ≡ rep k₀ f) ↔ Alike t is_free rep k₀ e₀ f
      against (inl T) f B n =
          let (says, holds) = F.level k₀ T.like f T.stands B (taken_no_name T) n in (
            λ h. alike_trans t is_free rep k₀ e₀ T.like f T.level (says (sym T.number ∙ h)),
            λ l. T.number ∙ holds (alike_trans t is_free rep k₀ T.like e₀ f (alike_sym t is_free rep k₀ e₀ T.like T.level) l),
          )
      against (inr N) f B n = (λ h. absurd (N.none_has f B h), λ l. absurd (N.none_like f B l))

      level_new : Found → (f : ℕ) → on k₀ f → NoName (shape t f) → (new k₀ e₀ ≡ new k₀ f) ↔ Alike t is_free new k₀ e₀ f
      level_new c f B n =
          let (says, holds) = against c f B n in
          let (alike, alike_back) = alike_old t is_free rep new on F k₀ e₀ old k₀ e₀ f kids (F.closed k₀ f B) in
          (λ h. alike_back (says (h ∙ old k₀ f B)), λ l. holds (alike l) ∙ sym (old k₀ f B))

      level_with : Found → (k e f : ℕ) → With on k₀ e₀ k e → With on k₀ e₀ k f → NoName (shape t e) → NoName (shape t f)
          → (new k e ≡ new k f) ↔ Alike t is_free new k e f
      level_with c k e f (inl A) (inl B) n m = level_old t is_free rep new on F k₀ e₀ old k e f A B n m
      level_with c k e f (inr (i, j)) (inl B) n m = rw (i, j) (level_new c f (rw i at B) m)
      level_with c k e f (inl A) (inr (i, j)) n m =
          let (says, holds) = level_new c e (rw i at A) n in
          rw (i, j) (λ h. alike_sym t is_free new k₀ e₀ e (says (sym h)), λ l. sym (holds (alike_sym t is_free new k₀ e e₀ l)))
      level_with c k e f (inr (i, j)) (inr (u, w)) n m = rw (i, j, w) (λ _. alike_refl t is_free new k₀ e₀ real, λ _. refl)

      pub place : Taken t is_free rep on k₀ e₀ (new k₀ e₀) ⊎ Fresh t is_free rep on k₀ e₀ (new k₀ e₀) → Filled t is_free new (With on k₀ e₀)
      place c = record { closed = closed_with t is_free rep new on F k₀ e₀ old kids; level = level_with c; free = free; bounds = bounds; bound_apart = bound_apart }
        where
          is_name : {A : Type 0} (e x : ℕ) → e ≡ e₀ → shape t e ≡ name x → A
          is_name e x j q = let z : name x ≡ shape t e₀ = sym q ∙ ap (shape t) j in absurd (rw (← z) at real)

          free : (e x : ℕ) → With on k₀ e₀ 0 e → shape t e ≡ name x → With on k₀ e₀ 0 x × (new 0 e ≡ new 0 x)
          free e x (inl A) q = free_old t is_free rep new on F k₀ e₀ old e x A q
          free e x (inr (i, j)) q = is_name e x j q

          bounds : (e f x y : ℕ) → With on k₀ e₀ 1 e → With on k₀ e₀ 1 f → shape t e ≡ name x → shape t f ≡ name y → new 1 e ≡ new 1 f
          bounds e f x y (inl A) (inl B) q r = bounds_old t is_free rep new on F k₀ e₀ old e f x y A B q r
          bounds e f x y (inr (i, j)) B q r = is_name e x j q
          bounds e f x y (inl A) (inr (i, j)) q r = is_name f y j r

          apart : Found → (e x : ℕ) → 1 ≡ k₀ → on 1 e → shape t e ≡ name x → rep 1 e ≡ new 1 e₀ → ⊥
          apart (inl T) e x i A q h = F.bound_apart e T.like x A (rw (← i) at T.stands) q (taken_no_name T) (h ∙ (rw (← i) at T.number))
          apart (inr N) e x i A q h = N.none_has e (rw i at A) (rw i at (sym h))

          bound_apart : (e f x : ℕ) → With on k₀ e₀ 1 e → With on k₀ e₀ 1 f → shape t e ≡ name x → NoName (shape t f) → new 1 e ≡ new 1 f → ⊥
          bound_apart e f x (inr (i, j)) B q n h = is_name e x j q
          bound_apart e f x (inl A) (inl B) q n h = apart_old t is_free rep new on F k₀ e₀ old e f x A B q n h
          bound_apart e f x (inl A) (inr (i, j)) q n h = apart c e x i A q (sym (old 1 e A) ∙ (rw j at h))
