-- a bound name occurs in a formula
use Rattle.std.specs.Prelude.{◌≡◌, ◌⊎◌, ℕ, suc}
use Rattle.written.specs.Form.{Form, atom, pair, modal, bind, bound}

-- the name of the fixpoint i further out, counted from 0, occurs in a formula
abbrev pub Occurs : ℕ → Form → Type 0
Occurs i (atom l) = ⊥
Occurs i (pair o F G) = Occurs i F ⊎ Occurs i G
Occurs i (modal m F) = Occurs i F
Occurs i (bind σ F) = Occurs (suc i) F
Occurs i (bound j) = i ≡ j
