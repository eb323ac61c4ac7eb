use mathlib.Core.Path.{refl}
use borrow.Author.Tests.{le-leb, lt-leb}
use Rattle.formula.proofs.Kind.is_modal.Goals as goal

pub returns-then-kind-ge-DIAMOND : goal.returns-then-kind-ge-DIAMOND
returns-then-kind-ge-DIAMOND c = rw (le-leb 6 _ c.if-kind-ge-DIAMOND.true) refl

pub returns-else-kind-ge-DIAMOND : goal.returns-else-kind-ge-DIAMOND
returns-else-kind-ge-DIAMOND c = rw (lt-leb 6 _ c.if-kind-ge-DIAMOND.false) refl
