-- `or_kept` meets its contract: the set that is compared holds the side and both targets.
use mathlib.Core.Path.{refl, ◌∙◌}
use mathlib.Core.List.{[]}
use native.Mathlib.Omega.{arith}
use Rattle.formula.specs.Codes.{entry_of_lem}
use Rattle.calculus.specs.Judge.{keys, sides, or_kept as Kept}
use Rattle.sequents.specs.KeptLaws.{Operands, this_kind, other_kind, or_operands, operand_member}
use Rattle.operand_rules.proofs.or_kept.Goals as goal
use Rattle.operand_rules.proofs.or_kept.Goals.{Else-table-entry_of-ne-OR}

-- where the first test is passed, the principal has two operands
told : (c : Else-table-entry_of-ne-OR) → let a = c.args in Operands a.table.now.columns.kinds.now a.table.now.columns.a.now a.table.now.columns.b.now a.table.now.columns.count (entry_of_lem a.principal)
told c = or_operands c.requires c.entry_of.ensures c.if-table-entry_of-ne-OR.false

pub returns-then-table-entry_of-ne-OR : goal.returns-then-table-entry_of-ne-OR
unfolding Kept
returns-then-table-entry_of-ne-OR c l m S M = rw (other_kind c.requires l m [] S.belongs c.entry_of.ensures c.if-table-entry_of-ne-OR.true) refl

pub operand_key-left-requires : goal.operand_key-left-requires
operand_key-left-requires c = let p = c.requires in (omega (arith, p.inside, p.small), (told c).a.within, omega arith)

pub operand_key-right-requires : goal.operand_key-right-requires
operand_key-right-requires c =
    let p = c.requires in
    (omega (arith, p.inside, p.small), (told (goal.at.operand_key-right-requires c).Else-table-entry_of-ne-OR).b.within, omega arith)

pub returns : goal.returns
unfolding Kept sides keys
returns c l m S M =
    let k = told (goal.at.returns c).Else-table-entry_of-ne-OR in
    let a_key = c.operand_key-left.ensures.1 c.args.table.now.columns.b.now c.args.table.now.columns.count k.a.inside ∙ operand_member c.requires k.a (omega arith) in
    let b-key = c.operand_key-right.ensures.1 c.args.table.now.columns.b.now c.args.table.now.columns.count k.b.inside ∙ operand_member c.requires k.b (omega arith) in
    rw (
      this_kind c.requires l m [] S.belongs c.entry_of.ensures c.if-table-entry_of-ne-OR.false,
      ← a_key,
      ← b-key,
    )
    (c.same.ensures _ _ M (c.put-2.ensures _ (c.put.ensures _ S.holds)))
