use mathlib.Core.Path.{refl}
use borrow.Author.Tests.{le-leb, lt-leb}
use Rattle.formula.proofs.Rule.has_principal.Goals as goal

pub returns-then-rule-ge-OR : goal.returns-then-rule-ge-OR
returns-then-rule-ge-OR c = rw (le-leb 2 _ c.if-rule-ge-OR.true) refl

pub returns-else-rule-ge-OR : goal.returns-else-rule-ge-OR
returns-else-rule-ge-OR c = rw (lt-leb 2 _ c.if-rule-ge-OR.false) refl
