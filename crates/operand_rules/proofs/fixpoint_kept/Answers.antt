-- `fixpoint_kept` meets its contract: side plus the body's target at the focus that it is given.
use mathlib.Core.Path.{refl, ◌∙◌}
use mathlib.Core.List.{[]}
use native.Mathlib.Omega.{arith}
use Rattle.formula.specs.Table.{entry}
use Rattle.formula.specs.Codes.{entry_of_lem}
use Rattle.calculus.specs.Judge.{keys, sides}
use Rattle.sequents.specs.KeptLaws.{Operand-in, this_kind, other_kind, body, operand_member}
use Rattle.sequents.specs.Columned.{numbered}
use Rattle.operand_rules.proofs.fixpoint_kept.Goals as goal
use Rattle.operand_rules.proofs.fixpoint_kept.Goals.{Else-table-entry_of}

-- where the first test is passed, the principal has a body
told : (c : Else-table-entry_of) → let a = c.args in
    Operand-in a.table.now.columns.kinds.now a.table.now.columns.a.now a.table.now.columns.a.now a.table.now.columns.count (entry_of_lem a.principal) (entry (numbered a.table.now) (entry_of_lem a.principal)).a
told c = body c.requires.0 c.entry_of.ensures c.requires.1 c.if-table-entry_of.false

pub returns-then-table-entry_of : goal.returns-then-table-entry_of
returns-then-table-entry_of c l m S M = rw (other_kind c.requires.0 l m [] S.belongs c.entry_of.ensures c.if-table-entry_of.true) refl

pub operand_key-body-requires : goal.operand_key-body-requires
operand_key-body-requires c =
    let p = c.requires in
    (omega (arith, p.0.inside, p.0.small), (told c).within, p.2)

pub returns : goal.returns
unfolding sides keys
returns c l m S M =
    let k = told (goal.at.returns c).Else-table-entry_of in
    let body-key = c.operand_key-body.ensures.1 c.args.table.now.columns.b.now c.args.table.now.columns.count k.inside ∙ operand_member c.requires.0 k c.requires.2 in
    rw (
      this_kind c.requires.0 l m [] S.belongs c.entry_of.ensures c.if-table-entry_of.false,
      ← body-key,
    )
    (c.is_side_plus.ensures _ _ S.holds M)
