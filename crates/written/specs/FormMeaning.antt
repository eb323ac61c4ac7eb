-- what a formula means
use Prim.Native.Nat.{ℕ, zero, suc}
use Rattle.meaning.specs.States.{Model, StateSet, leaf_set, two_set, step_set, start}
use Rattle.meaning.specs.Chain.{iter}
use Rattle.written.specs.Form.{Form, atom, pair, modal, bind, bound}

-- a set of states for each bound name, the innermost fixpoint's first
abbrev pub Stack : Type 0
Stack = ℕ → StateSet

abbrev pub push : StateSet → Stack → Stack
push S π zero = S
push S π (suc i) = π i

module _ (M : Model) where
  unfoldable pub truth : Form → Stack → StateSet
  truth (atom l) π = leaf_set M l
  truth (pair o F G) π = two_set o (truth F π) (truth G π)
  truth (modal m F) π = step_set M m (truth F π)
  truth (bind σ F) π = iter (λ S. truth F (push S π)) M.size (start σ)
  truth (bound i) π = π i
