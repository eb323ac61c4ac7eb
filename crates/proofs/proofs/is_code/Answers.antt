-- The table of the kinds has the entry's kind where it is in range.
use borrow.Author.Tests.{le-ltb}
use mathlib.Core.Path.{sym, ◌∙◌}
use Rattle.proofs.specs.ProofLaws.{code_known, code_outside}
use Rattle.proofs.proofs.is_code.Goals as goal

pub returns-then-entry-count : goal.returns-then-entry-count
returns-then-entry-count c = sym (code_known _ _ _ c.if-entry-count.true)

pub returns-else-entry-count : goal.returns-else-entry-count
returns-else-entry-count c = le-ltb _ _ c.if-entry-count.false ∙ sym (code_outside _ _ _ c.if-entry-count.false)
