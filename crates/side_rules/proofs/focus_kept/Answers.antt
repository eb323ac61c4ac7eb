-- `focus_kept` meets its contract, test by test.
use mathlib.Core.Path.{refl, ◌∙◌}
use mathlib.Core.List.{[]}
use borrow.Author.Tests.{eq-eqb, ne_eqb}
use Rattle.calculus.specs.Judge.{keys, sides, focus_kept_lem as FocusKept}
use Rattle.formula.specs.Codes.{entry_of_lem}
use Rattle.sequents.specs.Keys.{key_code}
use Rattle.sequents.specs.KeptLaws.{belongs_so}
use Rattle.side_rules.proofs.focus_kept.Goals as goal

pub returns-then-principal-from : goal.returns-then-principal-from
unfolding FocusKept sides keys
returns-then-principal-from c t N h l m S M =
    let turned = (rw c.entry_of.ensures at c.key.ensures.1) ∙ key_code N (entry_of_lem c.args.principal) c.args.to c.requires.1 h in
    rw (belongs_so t _ l m [] S.belongs, eq-eqb _ _ c.if-principal-from.true, ← turned) (c.is_side_plus.ensures _ _ S.holds M)

pub returns-else-principal-from : goal.returns-else-principal-from
unfolding FocusKept
returns-else-principal-from c t N h l m S M = rw (belongs_so t _ l m [] S.belongs, ne_eqb _ _ c.if-principal-from.false) refl
