use native.Mathlib.Omega.{arith}
use Rattle.operands.specs.OperandBounds.{name_answer, other_answer}
use Rattle.operands.proofs.out.Goals as goal

pub returns-then-kind-eq-NAME : goal.returns-then-kind-eq-NAME
returns-then-kind-eq-NAME c =
    let given = c.args in
    name_answer given.table.now.kinds.now given.table.now.a.now given.table.now.b.now given.table.now.count given.e (omega arith) c.wide-first.ensures c.if-kind-eq-NAME.true c.name_out.ensures

pub returns : goal.returns
returns c =
    let given = c.args in
    other_answer given.table.now.kinds.now given.table.now.a.now given.table.now.b.now given.table.now.count given.e (omega arith) c.wide-first.ensures c.wide.ensures c.if-kind-eq-NAME.false c.operands_out.ensures
