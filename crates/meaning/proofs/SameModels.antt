-- two models that agree on what a table asks of them give its entries the same meanings
use Rattle.std.specs.Prelude.{◌≡◌, Bool, ◌&&◌, ◌||◌, length}
use Rattle.std.proofs.Math.Path.{refl, ap, subst⁻¹}
use Rattle.std.proofs.Common.{sym, ◌∙◌, inl, inr}
use Rattle.std.proofs.Math.Bool.{not}
use Prim.Native.Nat.{ℕ, zero, suc, ◌-◌, ◌<◌}
use Rattle.formula.specs.Table.{Table}
use Rattle.formula.specs.Shape.{Shape, leaf, two, step, fix, name, Leaf, never, always, letter, negated, Step, diamond, box, shape, Operand}
use Rattle.formula.specs.Below.{by_smaller}
use Rattle.conditions.specs.WellFormed.{WellFormed}
use Rattle.meaning.specs.Truth.{both_ways, some, every, some_mono, every_mono}
use Rattle.meaning.specs.States.{Model, StateSet, SameStates, leaf_set, step_set, start}
use Rattle.meaning.specs.StateLaws.{same_trans, path_same, two_same}
use Rattle.meaning.specs.Chain.{iter, iter_rel}
use Rattle.meaning.specs.Meaning.{Env, put, clause, meaning, owns, own}
use Rattle.meaning.specs.MeaningLaws.{put_both, meaning_at}
use Rattle.meaning.specs.SameModels.{Acts, Agree}

some_same : (n : ℕ) (f g : ℕ → Bool) → ((i : ℕ) → i < n → f i ≡ g i) → some n f ≡ some n g
some_same n f g h = both_ways _ _ (some_mono n f g (λ i l e. sym (h i l) ∙ e)) (some_mono n g f (λ i l e. h i l ∙ e))

every_same : (n : ℕ) (f g : ℕ → Bool) → ((i : ℕ) → i < n → f i ≡ g i) → every n f ≡ every n g
every_same n f g h = both_ways _ _ (every_mono n f g (λ i l e. sym (h i l) ∙ e)) (every_mono n g f (λ i l e. h i l ∙ e))

module _ {t : Table} {M N : Model} (G : Agree t M N) where
  leaf_agrees : (l : Leaf) → SameStates M.size (leaf_set M l) (leaf_set N l)
  unfolding leaf_set
  leaf_agrees never = λ s k. refl
  leaf_agrees always = λ s k. refl
  leaf_agrees (letter p) = λ s k. G.letters s p k
  leaf_agrees (negated p) = λ s k. ap not (G.letters s p k)

  step_agrees : (m : Step) (e a : ℕ) → shape t e ≡ step m a → {A B : StateSet} → SameStates M.size A B → SameStates M.size (step_set M m A) (step_set N m B)
  unfolding step_set
  step_agrees (diamond n) e a q {A} {B} h =
      λ s l.
      some_same M.size _ _ (λ u k. rw (G.successors e n (subst⁻¹ (λ (v : Shape). Acts v n) q refl) s u l k, h u k) refl)
      ∙ ap (λ (k : ℕ). some k (λ u. N.succ n s u && B u)) G.size
  step_agrees (box n) e a q {A} {B} h =
      λ s l.
      every_same M.size _ _ (λ u k. rw (G.successors e n (subst⁻¹ (λ (v : Shape). Acts v n) q refl) s u l k, h u k) refl)
      ∙ ap (λ (k : ℕ). every k (λ u. not (N.succ n s u) || B u)) G.size

  abbrev Alike : Env → Env → Type 0
  Alike ρ π = (x : ℕ) → SameStates M.size (ρ x) (π x)

  put_alike : {ρ π : Env} → Alike ρ π → (e : ℕ) {A B : StateSet} → SameStates M.size A B → Alike (put ρ e A) (put π e B)
  put_alike {ρ} {π} h e {A} {B} p x = put_both (SameStates M.size) ρ π e A B x p (λ ne. h x)

  module _ (wf : WellFormed t) where
    abbrev Means : ℕ → Type 0
    Means e = (ρ π : Env) → Alike ρ π → SameStates M.size (meaning M t e ρ) (meaning N t e π)

    clause_agrees : (e : ℕ) (v : Shape) → shape t e ≡ v → ((c : ℕ) → Operand v c → Means c) → (ρ π : Env) → Alike ρ π
        → SameStates M.size (clause M (meaning M t) e v ρ) (clause N (meaning N t) e v π)
    unfolding clause
    clause_agrees e (leaf l) q ih ρ π h = leaf_agrees l
    clause_agrees e (two o a b) q ih ρ π h = two_same o (ih a (inl refl) ρ π h) (ih b (inr refl) ρ π h)
    clause_agrees e (step m a) q ih ρ π h = step_agrees m e a q (ih a refl ρ π h)
    clause_agrees e (fix σ a) q ih ρ π h =
        same_trans
        (iter_rel (SameStates M.size) (λ A B p. ih a refl (put ρ e A) (put π e B) (put_alike h e p)) M.size (start σ) (start σ) (λ s l. refl))
        (path_same (ap (λ (k : ℕ). iter (λ B. meaning N t a (put π e B)) k (start σ)) G.size))
    clause_agrees e (name x) q ih ρ π h = h x

    meaning_agrees : (e : ℕ) → Means e
    meaning_agrees = by_smaller Means
        (λ e ih ρ π h. rw (meaning_at M t wf e refl ρ, meaning_at N t wf e refl π)
        (clause_agrees e (shape t e) refl (λ c o. ih c (wf.operands_below e c o)) ρ π h))

    owns_agree : (d : ℕ) → Alike (owns M t d) (owns N t d)
    unfolding owns
    owns_agree zero = λ x s l. refl
    owns_agree (suc d) = put_alike (owns_agree d) (length t - suc d) (meaning_agrees (length t - suc d) _ _ (owns_agree d))

    pub own_agrees : (e : ℕ) → SameStates M.size (own M t e) (own N t e)
    unfolding own
    own_agrees e = meaning_agrees e _ _ (owns_agree (length t))
