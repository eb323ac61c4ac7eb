-- sets that obey the closure laws, with each mu's inside and each nu's around its own meaning, are the own meanings
use Rattle.std.specs.Prelude.{◌≡◌, ◌⊎◌, ℕ, ◌<◌, length}
use Rattle.std.proofs.Math.Path.{refl, ap, subst⁻¹}
use Rattle.std.proofs.Common.{sym, ◌∙◌, inl, inr, arith}
use Rattle.std.proofs.Math.Decide.{dec_lt}
use Rattle.formula.specs.Table.{Table}
use Rattle.formula.specs.Shape.{Shape, leaf, two, step, fix, name, never, Fix, mu, nu, shape, Operand}
use Rattle.conditions.specs.Free.{Free, named, inside}
use Rattle.conditions.specs.WellFormed.{WellFormed}
use Rattle.meaning.specs.States.{Model, StateSet, SameStates, leaf_set, two_set, step_set}
use Rattle.meaning.specs.StateLaws.{same_sym, same_trans, path_same, Toward, toward_both}
use Rattle.forming.specs.TowardLaws.{toward_refl, toward_trans, same_toward, toward_two, toward_step, toward_meaning}
use Rattle.formula.specs.Below.{by_smaller, by_larger}
use Rattle.meaning.specs.Meaning.{Env, put, clause, meaning, owns, own}
use Rattle.meaning.specs.MeaningLaws.{put_at, meaning_at}
use Rattle.meaning.proofs.FixSettles.{fix_first}
use Rattle.formula.specs.TableLaws.{past_end, fix_in}
use Rattle.conditions.specs.WellFormedLaws.{free_in}
use Rattle.meaning.specs.OwnLaws.{closed, owns_own}
use Rattle.meaning.proofs.OwnLaws.{own_law}

-- the set of an entry of a shape: names read W, operands f
unfoldable pub formed : Model → (ℕ → StateSet) → (ℕ → StateSet) → Shape → StateSet
formed M W f (leaf l) = leaf_set M l
formed M W f (two o a b) = two_set o (f a) (f b)
formed M W f (step m a) = step_set M m (f a)
formed M W f (fix σ a) = f a
formed M W f (name x) = W x

-- of the entries in B: each set is formed of others, a mu's lies inside its own meaning and a nu's around it,
-- and what they look at is in B or is the own meaning already
pub record Closes (M : Model) (t : Table) (B : ℕ → Type 0) (W : ℕ → StateSet) : Type 0 where
  pub laws : (e : ℕ) → B e → SameStates M.size (W e) (formed M W W (shape t e))
  pub toward : (e a : ℕ) (σ : Fix) → B e → shape t e ≡ fix σ a → Toward M.size σ (W e) (own M t e)
  pub operands : (e c : ℕ) → B e → Operand (shape t e) c → B c ⊎ SameStates M.size (W c) (own M t c)
  pub names : (e x : ℕ) → B e → shape t e ≡ name x → B x ⊎ SameStates M.size (W x) (own M t x)

other_way : (n : ℕ) (σ τ : Fix) (A B : StateSet) → (σ ≡ τ → ⊥) → Toward n τ A B → Toward n σ B A
other_way n mu mu A B k h = absurd (k refl)
other_way n mu nu A B k h = h
other_way n nu mu A B k h = h
other_way n nu nu A B k h = absurd (k refl)

pub alike : (σ τ : Fix) → Dec (σ ≡ τ)
alike mu mu = yes refl
alike mu nu = no (λ p. let z : ◌≡◌ {A = ℕ} 0 1 = cc in omega arith)
alike nu mu = no (λ p. let z : ◌≡◌ {A = ℕ} 0 1 = cc in omega arith)
alike nu nu = yes refl

module _ (M : Model) (t : Table) (wf : WellFormed t) (B : ℕ → Type 0) (W : ℕ → StateSet) (C : Closes M t B W) where
  law_at : (e : ℕ) {v : Shape} → shape t e ≡ v → B e → SameStates M.size (W e) (formed M W W v)
  law_at e q i = same_trans (C.laws e i) (path_same (ap (formed M W W) q))

  operand_at : (e c : ℕ) {v : Shape} → shape t e ≡ v → B e → Operand v c → B c ⊎ SameStates M.size (W c) (own M t c)
  operand_at e c q i o = C.operands e c i (subst⁻¹ (λ (u : Shape). Operand u c) q o)

  module _ (σ : Fix) where
    -- whatever lies on this side of the own meanings and of W at the free names, lies there at e
    abbrev Side : ℕ → Type 0
    Side e =
        (ρ : Env) → ((x : ℕ) → Free t e x → Toward M.size σ (ρ x) (owns M t (length t) x))
        → ((x : ℕ) → Free t e x → B x → Toward M.size σ (ρ x) (W x)) → Toward M.size σ (meaning M t e ρ) (W e)

    known : (e : ℕ) → SameStates M.size (W e) (own M t e) → Side e
    unfolding own
    known e p ρ h g = toward_trans M.size σ _ _ _ (toward_meaning M t wf σ e ρ _ h) (same_toward M.size σ _ _ (same_sym p))

    either : (e : ℕ) → B e ⊎ SameStates M.size (W e) (own M t e) → (B e → Side e) → Side e
    either e (inl i) ih = ih i
    either e (inr p) ih = known e p

    by_law : (e : ℕ) {v : Shape} → shape t e ≡ v → B e → (A : StateSet) → Toward M.size σ A (formed M W W v) → Toward M.size σ A (W e)
    by_law e q i A h = toward_trans M.size σ _ _ _ h (same_toward M.size σ _ _ (same_sym (law_at e q i)))

    side_step : (e : ℕ) (v : Shape) → shape t e ≡ v → B e → ((c : ℕ) → Operand v c → B c → Side c) → Side e
    unfolding formed clause own
    side_step e (leaf l) q i ih ρ h g = by_law e q i _ (rw (meaning_at M t wf e q ρ) (toward_refl M.size σ (leaf_set M l)))
    side_step e (two o a b) q i ih ρ h g =
        by_law e q i _ (rw (meaning_at M t wf e q ρ)
        (toward_two M.size σ o _ _ _ _
        (either a (operand_at e a q i (inl refl)) (ih a (inl refl)) ρ (λ x f. h x (inside _ q (inl refl) absurd f)) (λ x f. g x (inside _ q (inl refl) absurd f)))
        (either b (operand_at e b q i (inr refl)) (ih b (inr refl)) ρ (λ x f. h x (inside _ q (inr refl) absurd f)) (λ x f. g x (inside _ q (inr refl) absurd f)))))
    side_step e (step m a) q i ih ρ h g =
        by_law e q i _ (rw (meaning_at M t wf e q ρ)
        (toward_step M σ m _ _
        (either a (operand_at e a q i refl) (ih a refl) ρ (λ x f. h x (inside _ q refl absurd f)) (λ x f. g x (inside _ q refl absurd f)))))
    side_step e (fix τ a) q i ih ρ h g = go (alike σ τ)
      where
        go : Dec (σ ≡ τ) → Toward M.size σ (meaning M t e ρ) (W e)
        go (yes s) =
            fix_first M t wf e a σ (q ∙ ap (λ (k : Fix). fix k a) (sym s)) ρ (W e)
            (by_law e q i _
            (either a (operand_at e a q i refl) (ih a refl) (put ρ e (W e))
            (λ x f. put_at (λ y A. Toward M.size σ A (owns M t (length t) y)) ρ e (W e) x
            (toward_trans M.size σ _ _ _ (C.toward e a σ i (q ∙ ap (λ (k : Fix). fix k a) (sym s))) (same_toward M.size σ _ _ (same_sym (owns_own M t wf e (fix_in t e a τ q)))))
            (λ ne. h x (inside _ q refl (λ _. ne) f)))
            (λ x f j. put_at (λ y A. Toward M.size σ A (W y)) ρ e (W e) x (toward_refl M.size σ (W e)) (λ ne. g x (inside _ q refl (λ _. ne) f) j))))
        go (no k) =
            toward_trans M.size σ _ _ _ (toward_meaning M t wf σ e ρ (owns M t (length t)) h)
            (other_way M.size σ τ _ _ k (C.toward e a τ i q))
    side_step e (name x) q i ih ρ h g =
        by_law e q i _ (rw (meaning_at M t wf e q ρ) (go (C.names e x i q)))
      where
        go : B x ⊎ SameStates M.size (W x) (own M t x) → Toward M.size σ (ρ x) (W x)
        go (inl j) = g x (named q) j
        go (inr p) =
            toward_trans M.size σ _ _ _ (h x (named q))
            (same_toward M.size σ _ _ (same_trans (owns_own M t wf x (wf.names_above e x q).1) (same_sym p)))

    side : (e : ℕ) → B e → Side e
    side = by_smaller (λ e. B e → Side e) (λ e ih i. side_step e (shape t e) refl i (λ c o. ih c (wf.operands_below e c o)))

    reached : (e : ℕ) → e < length t → B e → Toward M.size σ (own M t e) (W e)
    unfolding own
    reached = by_larger (λ e. B e → Toward M.size σ (own M t e) (W e)) (length t)
        (λ e l ih i. side e i (owns M t (length t)) (λ x f. toward_refl M.size σ _)
        (λ x f j. let m = free_in t wf f in
        toward_trans M.size σ _ _ _ (same_toward M.size σ _ _ (owns_own M t wf x m)) (ih x (wf.free_above e x f) m j)))

  pub closes_own : (e : ℕ) → B e → SameStates M.size (W e) (own M t e)
  closes_own e i = go (dec_lt e (length t))
    where
      go : Dec (e < length t) → SameStates M.size (W e) (own M t e)
      go (yes l) = same_sym (toward_both M.size mu _ _ (reached mu e l i) (reached nu e l i))
      go (no l) =
          let q = past_end t e (omega arith) in
          same_trans (law_at e q i) (unfold formed closed in same_sym (own_law M t wf e (leaf never) q))
