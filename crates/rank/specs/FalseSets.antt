-- where the set that a connective makes is false
use Rattle.std.specs.Prelude.{◌≡◌, refl, Bool, true, false, not, ◌&&◌, ◌⊎◌, ◌↔◌, ℕ, ◌<◌}
use Rattle.std.proofs.Common.{sym, true≢false, inl, inr}
use Rattle.std.proofs.lemmas.Bool.{not-false}
use Rattle.meaning.specs.Truth.{or-false, and-false, some_false, none-some, every_false, fails_every}
use Rattle.formula.specs.Shape.{Two, or, and, Step, diamond, box}
use Rattle.meaning.specs.States.{Model, StateSet, two_set, step_set}

-- how a connective fails by its two parts, and a modality by what holds of successors
abbrev pub TwoFails : Two → Type 0 → Type 0 → Type 0
TwoFails or P Q = P × Q
TwoFails and P Q = P ⊎ Q

abbrev pub StepFails : Model → Step → ℕ → (ℕ → Type 0) → Type 0
StepFails M (diamond n) s P = (u : ℕ) → u < M.size → M.succ n s u ≡ true → P u
StepFails M (box n) s P = (u : ℕ) × (u < M.size) × (M.succ n s u ≡ true) × P u

and_fails : (a b : Bool) → (a ≡ false) ⊎ (b ≡ false) → (a && b) ≡ false
and_fails true b (inl h) = absurd (true≢false h)
and_fails true b (inr h) = h
and_fails false b h = refl

edge_and : (a b : Bool) → ((a && b) ≡ false) ↔ (a ≡ true → b ≡ false)
edge_and true b = (λ h _. h, λ h. h refl)
edge_and false b = (λ _ e. absurd (true≢false (sym e)), λ _. refl)

pub two_false : (o : Two) (A B : StateSet) (s : ℕ) → (two_set o A B s ≡ false) ↔ TwoFails o (A s ≡ false) (B s ≡ false)
unfolding two_set
two_false or A B s = (or-false (A s) (B s), λ p. rw p.0 p.1)
two_false and A B s = (and-false (A s) (B s), and_fails (A s) (B s))

pub step_false : (M : Model) (m : Step) (A : StateSet) (s : ℕ) → (step_set M m A s ≡ false) ↔ StepFails M m s (λ u. A u ≡ false)
unfolding step_set
step_false M (diamond n) A s = (
  λ h u k. (edge_and (M.succ n s u) (A u)).0 (some_false M.size _ h u k),
  λ h. none-some M.size _ (λ u k. (edge_and (M.succ n s u) (A u)).1 (h u k)),
)
step_false M (box n) A s = (
  λ h. let (u, k, p) = every_false M.size _ h in
      let (z, f) = or-false (not (M.succ n s u)) (A u) p in (u, k, not-false (M.succ n s u) z, f),
  λ (u, k, e, f). fails_every M.size _ u k (rw (e, f)),
)
