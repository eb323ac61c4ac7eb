use mathlib.Core.Path.{refl}
use borrow.Author.Tests.{le-leb, lt-leb}
use Rattle.formula.proofs.Kind.has_b.Goals as goal

pub returns-then-kind-ge-OR : goal.returns-then-kind-ge-OR
returns-then-kind-ge-OR c = rw (le-leb 4 _ c.if-kind-ge-OR.true) refl

pub returns-else-kind-ge-OR : goal.returns-else-kind-ge-OR
returns-else-kind-ge-OR c = rw (lt-leb 4 _ c.if-kind-ge-OR.false) refl
