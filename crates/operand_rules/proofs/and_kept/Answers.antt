-- `and_kept` meets its contract, test by test: the kind, the first child, the second.
use mathlib.Core.Path.{◌≡◌, refl, sym, ◌∙◌}
use mathlib.Core.List.{List, ◌∷◌}
use Prim.Native.Nat.{ℕ, ◌%◌}
use native.Mathlib.Omega.{arith}
use Rattle.verdict.specs.Tests.{same, remove, each}
use Rattle.formula.specs.Codes.{code, entry_of_lem}
use Rattle.formula.specs.Target.{target_a}
use Rattle.written.specs.Canon.{key}
use Rattle.calculus.specs.Judge.{keys, sides, and_kept as Kept}
use Rattle.sequents.specs.Placed.{Side, HoldsKeys}
use Rattle.sequents.specs.KeptLaws.{Operands, this_kind, other_kind, and_operands, operand_member}
use Rattle.sequents.specs.Columned.{numbered}
use Rattle.operand_rules.proofs.and_kept.Goals as goal
use Rattle.operand_rules.proofs.and_kept.Goals.{After-is_side_plus, Else-table-entry_of-ne-AND}

-- where the first test is passed, the principal has two operands
told : (c : Else-table-entry_of-ne-AND) → let a = c.args in Operands a.table.now.columns.kinds.now a.table.now.columns.a.now a.table.now.columns.b.now a.table.now.columns.count (entry_of_lem a.principal)
told c = and_operands c.requires c.entry_of.ensures c.if-table-entry_of-ne-AND.false

-- what the test of the first child's sequent says
first : (c : After-is_side_plus) → let a = c.args in
    let t = numbered a.table.now in
    (l m : List ℕ) → Side t a.side.now a.principal l → HoldsKeys t a.first.now m
    → c.is_side_plus.result
    ≡ same (each (key t) m) (key t (code (target_a t (entry_of_lem a.principal)) (a.principal % 2)) ∷ remove (key t a.principal) (each (key t) l))
first c l m S M =
    let k = and_operands c.requires c.entry_of.ensures c.if-table-entry_of-ne-AND.false in
    let a_key = c.operand_key-of_a.ensures.1 c.args.table.now.columns.b.now c.args.table.now.columns.count k.a.inside ∙ operand_member c.requires k.a (omega arith) in
    rw (← a_key) (c.is_side_plus.ensures _ _ S.holds M)

pub returns-then-table-entry_of-ne-AND : goal.returns-then-table-entry_of-ne-AND
unfolding Kept
returns-then-table-entry_of-ne-AND c l m n S M N = rw (other_kind c.requires l m n S.belongs c.entry_of.ensures c.if-table-entry_of-ne-AND.true) refl

pub operand_key-of_a-requires : goal.operand_key-of_a-requires
operand_key-of_a-requires c = let p = c.requires in (omega (arith, p.inside, p.small), (told c).a.within, omega arith)

pub operand_key-of_b-requires : goal.operand_key-of_b-requires
operand_key-of_b-requires c =
    let p = c.requires in
    (omega (arith, p.inside, p.small), (told (goal.at.operand_key-of_b-requires c).Else-table-entry_of-ne-AND).b.within, omega arith)

pub returns-then-is_side_plus : goal.returns-then-is_side_plus
unfolding Kept sides keys
returns-then-is_side_plus c l m n S M N =
    let k = told (goal.at.returns-then-is_side_plus c).Else-table-entry_of-ne-AND in
    let b-key = c.operand_key-of_b.ensures.1 c.args.table.now.columns.b.now c.args.table.now.columns.count k.b.inside ∙ operand_member c.requires k.b (omega arith) in
    rw (
      this_kind c.requires l m n S.belongs c.entry_of.ensures c.if-table-entry_of-ne-AND.false,
      sym (first (goal.at.returns-then-is_side_plus c).After-is_side_plus l m S M) ∙ c.if-is_side_plus.true,
      ← b-key,
    )
    (c.is_side_plus-then-is_side_plus.ensures _ _ S.holds N)

pub returns-else-is_side_plus : goal.returns-else-is_side_plus
unfolding Kept sides keys
returns-else-is_side_plus c l m n S M N =
    rw (
      this_kind c.requires l m n S.belongs c.entry_of.ensures c.if-table-entry_of-ne-AND.false,
      sym (first (goal.at.returns-else-is_side_plus c).After-is_side_plus l m S M) ∙ c.if-is_side_plus.false,
    ) c.if-is_side_plus.false
