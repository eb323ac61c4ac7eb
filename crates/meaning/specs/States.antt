-- finite models, sets of their states, and the set that each connective makes
use Rattle.std.specs.Prelude.{Bool, true, false, not, ◌&&◌, ◌||◌, ◌≡◌, ℕ, ◌<◌}
use Rattle.meaning.specs.Truth.{◌⊑◌, some, every}
use Rattle.formula.specs.Shape.{Leaf, never, always, letter, negated, Two, or, and, Step, diamond, box, Fix, mu, nu}

-- letter s p: state s has letter p; succ n s u: action n leads from state s to u; states lie below the size. There is a relation for every
-- number: that actions are 0 to 15 is refusal 71's bound and not the model's
pub record Model : Type 0 where
  pub size : ℕ
  pub letter : ℕ → ℕ → Bool
  pub succ : ℕ → ℕ → ℕ → Bool

-- u is a successor of s by action n
abbrev pub Successor : Model → ℕ → ℕ → ℕ → Type 0
Successor M n s u = (u < M.size) × (M.succ n s u ≡ true)

-- a set says of each state whether it is in; only states below the size count
abbrev pub StateSet : Type 0
StateSet = ℕ → Bool

abbrev pub Sub : ℕ → StateSet → StateSet → Type 0
Sub n A B = (s : ℕ) → s < n → A s ⊑ B s

abbrev pub SameStates : ℕ → StateSet → StateSet → Type 0
SameStates n A B = (s : ℕ) → s < n → A s ≡ B s

unfoldable pub two_set : Two → StateSet → StateSet → StateSet
two_set or A B s = A s || B s
two_set and A B s = A s && B s

module _ (M : Model) where
  unfoldable pub leaf_set : Leaf → StateSet
  leaf_set never s = false
  leaf_set always s = true
  leaf_set (letter p) s = M.letter s p
  leaf_set (negated p) s = not (M.letter s p)

  unfoldable pub step_set : Step → StateSet → StateSet
  step_set (diamond n) A s = some M.size (λ u. M.succ n s u && A u)
  step_set (box n) A s = every M.size (λ u. not (M.succ n s u) || A u)

-- where the iteration of a fixpoint starts: at no state, at all
unfoldable pub start : Fix → StateSet
start mu s = false
start nu s = true
