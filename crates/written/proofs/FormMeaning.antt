-- an entry by itself means what its formula means
use Rattle.std.specs.Prelude.{◌≡◌, ◌≢◌, ◌⊎◌, length}
use Rattle.std.proofs.Math.Path.{refl}
use Rattle.std.proofs.Common.{ap, inl, inr}
use mathlib.Core.List.{List, [], ◌∷◌}
use Prim.Native.Nat.{ℕ, zero, suc}
use Rattle.formula.specs.Table.{Table}
use Rattle.formula.specs.Shape.{Shape, leaf, two, step, fix, name, Fix, mu, shape, Operand}
use Rattle.formula.specs.Below.{by_smaller}
use Rattle.conditions.specs.Free.{Free, named as by_name, inside}
use Rattle.conditions.specs.WellFormed.{WellFormed}
use Rattle.conditions.specs.WellFormedLaws.{free_in}
use Rattle.meaning.specs.States.{Model, StateSet, SameStates, start}
use Rattle.meaning.specs.StateLaws.{same_sym, same_trans, path_same, two_same, step_same}
use Rattle.meaning.specs.Chain.{iter_rel}
use Rattle.meaning.specs.Meaning.{Env, put, clause as meant, meaning, owns, own}
use Rattle.meaning.specs.MeaningLaws.{put_at, meaning_at}
use Rattle.meaning.specs.OwnLaws.{owns_own}
use Rattle.written.specs.Form.{Form, atom, pair, modal, bind, bound}
use Rattle.written.specs.Written.{named, clause, written, SameFormula}
use Rattle.written.specs.Binding.{Unbound, BoundAt, bound_or_free, named_bound, named_free}
use Rattle.written.specs.WrittenLaws.{below, by_free, spell_at}
use Rattle.written.proofs.WrittenLaws.{written_law}
use Rattle.written.specs.Closed.{Occurs}
use Rattle.written.proofs.Closed.{written_closed}
use Rattle.written.specs.FormMeaning.{Stack, push, truth}

module _ (M : Model) where
  abbrev Alike : StateSet → StateSet → Type 0
  Alike = SameStates M.size

  -- only the bound names that occur count
  truth_local : (F : Form) (π ρ : Stack) → ((i : ℕ) → Occurs i F → Alike (π i) (ρ i)) → Alike (truth M F π) (truth M F ρ)
  unfolding truth
  truth_local (atom l) π ρ h = λ s k. refl
  truth_local (pair o F G) π ρ h = two_same o (truth_local F π ρ (λ i w. h i (inl w))) (truth_local G π ρ (λ i w. h i (inr w)))
  truth_local (modal m F) π ρ h = step_same M m (truth_local F π ρ h)
  truth_local (bind σ F) π ρ h =
      iter_rel Alike (λ S R p. truth_local F (push S π) (push R ρ) (pushed S R p)) M.size (start σ) (start σ) (λ s k. refl)
    where
      pushed : (S R : StateSet) → Alike S R → (i : ℕ) → Occurs i F → Alike (push S π i) (push R ρ i)
      pushed S R p zero w = p
      pushed S R p (suc i) w = h i w
  truth_local (bound i) π ρ h = h i refl

  module _ (t : Table) (wf : WellFormed t) where
    -- the names of an entry's formula are all bound within it
    written_steady : (e : ℕ) (π ρ : Stack) → Alike (truth M (written t e) π) (truth M (written t e) ρ)
    written_steady e π ρ = truth_local (written t e) π ρ (λ i w. absurd (written_closed t wf e i w))

    -- what is written for a name of x below the fixpoints s
    abbrev Name : List ℕ → ℕ → Form
    Name s x = named (written t) 0 s x

    -- its meaning one fixpoint further in
    name_pushed : (x e : ℕ) (s : List ℕ) (R : StateSet) (π : Stack) → x ≢ e → Alike (truth M (Name s x) π) (truth M (Name (e ∷ s) x) (push R π))
    unfolding truth
    name_pushed x e s R π n = go (bound_or_free s x)
      where
        go : ((i : ℕ) × BoundAt s x i) ⊎ Unbound s x → Alike (truth M (Name s x) π) (truth M (Name (e ∷ s) x) (push R π))
        go (inl (i, b)) = rw (named_bound (written t) s x i b, named_bound (written t) (e ∷ s) x (suc i) (n, b)) (λ u k. refl)
        go (inr u) = rw (named_free (written t) s x u, named_free (written t) (e ∷ s) x (n, u)) (written_steady x π (push R π))

    -- an environment gives each free name the meaning of what is written for it
    abbrev Agree : ℕ → List ℕ → Env → Stack → Type 0
    Agree e s ρ π = (x : ℕ) → Free t e x → Alike (ρ x) (truth M (Name s x) π)

    agree_body : (e a : ℕ) (σ : Fix) → shape t e ≡ fix σ a → (s : List ℕ) (ρ : Env) (π : Stack) → Agree e s ρ π
        → (S R : StateSet) → Alike S R → Agree a (e ∷ s) (put ρ e S) (push R π)
    unfolding truth
    agree_body e a σ q s ρ π h S R p x r =
        put_at (λ y A. Free t a y → Alike A (truth M (Name (e ∷ s) y) (push R π))) ρ e S x
        (λ _. rw (named_bound (written t) (e ∷ s) e 0 refl) p)
        (λ n k. same_trans (h x (inside _ q refl (λ _. n) k)) (name_pushed x e s R π n)) r

    abbrev Means : ℕ → Type 0
    Means e = (s : List ℕ) (ρ : Env) (π : Stack) → Agree e s ρ π → Alike (meaning M t e ρ) (truth M (below t e s) π)

    means_step : (e : ℕ) (v : Shape) → shape t e ≡ v → ((c : ℕ) → Operand v c → Means c)
        → (s : List ℕ) (ρ : Env) (π : Stack) → Agree e s ρ π
        → Alike (meant M (meaning M t) e v ρ) (truth M (clause (written t) (below t) e v s) π)
    unfolding meant clause truth
    means_step e (leaf l) q ih s ρ π h = λ u k. refl
    means_step e (two o a b) q ih s ρ π h =
        two_same o
        (ih a (inl refl) s ρ π (λ x r. h x (inside _ q (inl refl) absurd r)))
        (ih b (inr refl) s ρ π (λ x r. h x (inside _ q (inr refl) absurd r)))
    means_step e (step m a) q ih s ρ π h = step_same M m (ih a refl s ρ π (λ x r. h x (inside _ q refl absurd r)))
    means_step e (fix σ a) q ih s ρ π h =
        iter_rel Alike (λ S R p. ih a refl (e ∷ s) (put ρ e S) (push R π) (agree_body e a σ q s ρ π h S R p))
        M.size (start σ) (start σ) (λ u k. refl)
    means_step e (name x) q ih s ρ π h = h x (by_name q)

    means : (e : ℕ) → Means e
    means = by_smaller Means (λ e ih s ρ π h.
        rw (meaning_at M t wf e refl ρ, spell_at t wf (written t) e refl s)
        (means_step e (shape t e) refl (λ d o. ih d (wf.operands_below e d o)) s ρ π h))

    -- an entry by itself means what its formula means, whatever the stack
    pub own_written : (e : ℕ) (π : Stack) → SameStates M.size (own M t e) (truth M (written t e) π)
    unfolding own named
    own_written = by_free t wf (λ e. (π : Stack) → Alike (own M t e) (truth M (written t e) π)) (λ e ih π.
        rw (written_law t wf e) (means e [] (owns M t (length t)) π (λ x r. same_trans (owns_own M t wf x (free_in t wf r)) (ih x r π))))

    -- entries of the same formula have the same meaning
    pub same_own : (e f : ℕ) → SameFormula t e f → SameStates M.size (own M t e) (own M t f)
    same_own e f q =
        let π : Stack = λ i. start mu in
        same_trans (own_written e π) (same_trans (path_same (ap (λ (F : Form). truth M F π) q)) (same_sym (own_written f π)))
