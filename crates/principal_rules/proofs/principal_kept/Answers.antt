-- `principal_kept` meets its contract: a principal that is no formula belongs to no sequent.
use mathlib.Core.Path.{refl, ◌∙◌}
use mathlib.Core.List.{[]}
use Rattle.sequents.specs.KeptLaws.{was_false}
use Rattle.principal_rules.specs.Judged.{belongs_test, keeps_alien}
use Rattle.std.proofs.Common.{ap}
use Rattle.std.specs.Prelude.{not}
use Rattle.principal_rules.proofs.principal_kept.Goals as goal

pub returns-then-not-is_formula : goal.returns-then-not-is_formula
returns-then-not-is_formula c =
    let a = c.args in
    keeps_alien c.requires.0 a.v c.requires.1 _ c.requires.2 c.requires.3
    (belongs_test a.table.now.columns.kinds.now a.table.now.columns.a.now a.table.now.columns.b.now a.table.now.columns.count _ _ _ [] ∙ rw (was_false c.is_formula.ensures (ap not c.if-not-is_formula.true)) refl)
