-- meaning is monotone in the environment, and by the free names alone
use Rattle.std.specs.Prelude.{◌≡◌, ℕ, ◌<◌}
use Rattle.std.proofs.Math.Path.{refl, subst⁻¹}
use Rattle.std.proofs.Common.{◌∙◌, ap, inl, inr, eq-eqb, ne_eqb}
use Rattle.std.proofs.Math.Decide.{ℕ_discrete}
use Rattle.formula.specs.Table.{Table}
use Rattle.formula.specs.Shape.{Shape, leaf, two, step, fix, name, Fix, mu, shape, Operand}
use Rattle.conditions.specs.Free.{Free, named, inside}
use Rattle.conditions.specs.WellFormed.{WellFormed}
use Rattle.meaning.specs.States.{Model, StateSet, Sub, SameStates, leaf_set, two_set, step_set, start}
use Rattle.meaning.specs.StateLaws.{sub_refl, same_sub, same_sym, same_both, two_mono, step_mono}
use Rattle.meaning.specs.Chain.{iter, iter_rel}
use Rattle.formula.specs.Below.{recur_eq, by_smaller}
use Rattle.meaning.specs.Meaning.{Env, put, clause, meaning, round}

put_same : (ρ : Env) (e : ℕ) (S : StateSet) → put ρ e S e ≡ S
unfolding put
put_same ρ e S = rw (eq-eqb e e refl)

pub put_other : (ρ : Env) (e : ℕ) (S : StateSet) (x : ℕ) → (x ≡ e → ⊥) → put ρ e S x ≡ ρ x
unfolding put
put_other ρ e S x h = rw (ne_eqb x e h)

-- what holds of S at e, and of ρ at other names, holds once S is put at e
pub put_at : (P : ℕ → StateSet → Type 0) (ρ : Env) (e : ℕ) (S : StateSet) (x : ℕ) → P e S → ((x ≡ e → ⊥) → P x (ρ x)) → P x (put ρ e S x)
put_at P ρ e S x p q = go (ℕ_discrete x e)
  where
    go : Dec (x ≡ e) → P x (put ρ e S x)
    go (yes h) = rw (h, put_same) p
    go (no h) = rw (put_other ρ e S x h) (q h)

-- the same of two environments
pub put_both : (P : StateSet → StateSet → Type 0) (ρ σ : Env) (e : ℕ) (S S' : StateSet) (x : ℕ)
    → P S S' → ((x ≡ e → ⊥) → P (ρ x) (σ x)) → P (put ρ e S x) (put σ e S' x)
put_both P ρ σ e S S' x p q =
    put_at (λ y A. P A (put σ e S' y)) ρ e S x (rw put_same p) (λ ne. rw (put_other σ e S' x ne) (q ne))

module _ (M : Model) where
  clause_local : (f g : ℕ → Env → StateSet) (e : ℕ) (v : Shape) → ((c : ℕ) → Operand v c → f c ≡ g c) → clause M f e v ≡ clause M g e v
  unfolding clause
  clause_local f g e (leaf l) h = refl
  clause_local f g e (two o a b) h = λ i ρ. two_set o (h a (inl refl) i ρ) (h b (inr refl) i ρ)
  clause_local f g e (step m a) h = λ i ρ. step_set M m (h a refl i ρ)
  clause_local f g e (fix σ a) h = λ i ρ. iter (λ S. h a refl i (put ρ e S)) M.size (start σ)
  clause_local f g e (name x) h = refl

  module _ (t : Table) (wf : WellFormed t) where
    pub meaning_eq : (e : ℕ) → meaning M t e ≡ clause M (meaning M t) e (shape t e)
    unfolding meaning
    meaning_eq e =
        recur_eq (λ ρ. start mu) (λ f e. clause M f e (shape t e))
        (λ f g e h. clause_local f g e (shape t e) (λ c o. h c (wf.operands_below e c o))) e

    -- the meaning by the shape
    pub meaning_at : (e : ℕ) {v : Shape} → shape t e ≡ v → (ρ : Env) → meaning M t e ρ ≡ clause M (meaning M t) e v ρ
    meaning_at e q ρ = ap (λ (F : Env → StateSet). F ρ) (meaning_eq e) ∙ ap (λ (u : Shape). clause M (meaning M t) e u ρ) q

    -- ρ below σ at the free names of e
    abbrev pub Under : ℕ → Env → Env → Type 0
    Under e ρ σ = (x : ℕ) → Free t e x → Sub M.size (ρ x) (σ x)

    abbrev Grows : ℕ → Type 0
    Grows e = (ρ σ : Env) → Under e ρ σ → Sub M.size (meaning M t e ρ) (meaning M t e σ)

    -- one round at a fixpoint, from S under ρ and from a larger S' under a larger σ
    round_grows : (e a : ℕ) (τ : Fix) → shape t e ≡ fix τ a → Grows a → (ρ σ : Env) → Under e ρ σ
        → (S S' : StateSet) → Sub M.size S S' → Sub M.size (round M t e a ρ S) (round M t e a σ S')
    round_grows e a τ q ih ρ σ h S S' p =
        ih (put ρ e S) (put σ e S')
        (λ x f. put_both (Sub M.size) ρ σ e S S' x p (λ ne. h x (inside _ q refl (λ _. ne) f)))

    clause_mono : (e : ℕ) (v : Shape) → shape t e ≡ v → ((c : ℕ) → Operand v c → Grows c) → (ρ σ : Env) → Under e ρ σ
        → Sub M.size (clause M (meaning M t) e v ρ) (clause M (meaning M t) e v σ)
    unfolding clause
    clause_mono e (leaf l) q ih ρ σ h = sub_refl (leaf_set M l)
    clause_mono e (two o a b) q ih ρ σ h =
        two_mono o (ih a (inl refl) ρ σ (λ x f. h x (inside _ q (inl refl) absurd f)))
        (ih b (inr refl) ρ σ (λ x f. h x (inside _ q (inr refl) absurd f)))
    clause_mono e (step m a) q ih ρ σ h = step_mono M m (ih a refl ρ σ (λ x f. h x (inside _ q refl absurd f)))
    clause_mono e (fix τ a) q ih ρ σ h =
        iter_rel (Sub M.size) (round_grows e a τ q (ih a refl) ρ σ h) M.size (start τ) (start τ) (sub_refl (start τ))
    clause_mono e (name x) q ih ρ σ h = h x (named q)

    pub meaning_mono : (e : ℕ) (ρ σ : Env) → Under e ρ σ → Sub M.size (meaning M t e ρ) (meaning M t e σ)
    meaning_mono = by_smaller Grows go
      where
        go : (e : ℕ) → ((a : ℕ) → a < e → Grows a) → Grows e
        go e ih ρ σ h =
            subst⁻¹ (λ (F : Env → StateSet). Sub M.size (F ρ) (F σ)) (meaning_eq e)
            (clause_mono e (shape t e) refl (λ c o. ih c (wf.operands_below e c o)) ρ σ h)

    -- only the free names count
    pub meaning_local : (e : ℕ) (ρ σ : Env) → ((x : ℕ) → Free t e x → SameStates M.size (ρ x) (σ x)) → SameStates M.size (meaning M t e ρ) (meaning M t e σ)
    meaning_local e ρ σ h =
        same_both (meaning_mono e ρ σ (λ x f. same_sub (h x f))) (meaning_mono e σ ρ (λ x f. same_sub (same_sym (h x f))))

    pub round_mono : (e a : ℕ) (σ : Fix) → shape t e ≡ fix σ a → (ρ : Env) (A B : StateSet) → Sub M.size A B
        → Sub M.size (round M t e a ρ A) (round M t e a ρ B)
    round_mono e a σ q ρ = round_grows e a σ q (meaning_mono a) ρ ρ (λ x f. sub_refl (ρ x))
