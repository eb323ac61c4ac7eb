-- the target of an operand (document 01's term): the operand, or its fixpoint if it is a name
use Rattle.std.specs.Prelude.{ℕ}
use Rattle.formula.specs.Table.{Table, entry}
use Rattle.formula.specs.Shape.{Shape, leaf, two, step, fix, name, shape}

unfoldable pub target_of : Shape → ℕ → ℕ
target_of (leaf l) e = e
target_of (two o a b) e = e
target_of (step m a) e = e
target_of (fix σ a) e = e
target_of (name x) e = x

unfoldable pub target : Table → ℕ → ℕ
unfolding target_of shape
target t e = target_of (shape t e) e

-- the targets of an entry's operands; A is also the body of a fixpoint
abbrev pub target_a : Table → ℕ → ℕ
target_a t e = target t (entry t e).a

abbrev pub target_b : Table → ℕ → ℕ
target_b t e = target t (entry t e).b
