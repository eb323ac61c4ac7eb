use mathlib.Core.Path.{refl}
use borrow.Author.Tests.{le-leb, lt-leb}
use Rattle.formula.proofs.Kind.has_a.Goals as goal

pub returns-then-kind-ge-LETTER : goal.returns-then-kind-ge-LETTER
returns-then-kind-ge-LETTER c = rw (le-leb 2 _ c.if-kind-ge-LETTER.true) refl

pub returns-else-kind-ge-LETTER : goal.returns-else-kind-ge-LETTER
returns-else-kind-ge-LETTER c = rw (lt-leb 2 _ c.if-kind-ge-LETTER.false) refl
