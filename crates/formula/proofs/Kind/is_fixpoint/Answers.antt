use mathlib.Core.Path.{refl}
use borrow.Author.Tests.{le-leb, lt-leb}
use Rattle.formula.proofs.Kind.is_fixpoint.Goals as goal

pub returns-then-kind-ge-MU : goal.returns-then-kind-ge-MU
returns-then-kind-ge-MU c = rw (le-leb 8 _ c.if-kind-ge-MU.true) refl

pub returns-else-kind-ge-MU : goal.returns-else-kind-ge-MU
returns-else-kind-ge-MU c = rw (lt-leb 8 _ c.if-kind-ge-MU.false) refl
