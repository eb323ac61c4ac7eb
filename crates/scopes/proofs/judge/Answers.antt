-- 20 or 71 at the first entry that earns one; where none does, the pass over 21, 22 and 23 decides.
use mathlib.Core.Path.{◌≡◌}
use Prim.Native.Nat.{ℕ, ◌<◌}
use native.Mathlib.Omega.{arith}
use Rattle.verdict.proofs.PassedOn.{passed_on}
use Rattle.formula.specs.Plain.{table_of, table_of_length}
use Rattle.operands.specs.OperandBounds.{number_at_lem, number-none}
use Rattle.scopes.specs.JudgeSteps.{judge_fault, judge_names}
use Rattle.scopes.proofs.judge.Goals as goal

pub returns-in_err-first_fault : goal.returns-in_err-first_fault
returns-in_err-first_fault c =
    let given = c.args in
    rw (passed_on _ c.from_residual.ensures.1) (judge_fault (table_of given.table.now.kinds.now given.table.now.a.now given.table.now.b.now given.table.now.count) given.table.now.count (table_of_length given.table.now.kinds.now given.table.now.a.now given.table.now.b.now given.table.now.count) _ _
    c.in_err-first_fault.ensures.0 c.in_err-first_fault.ensures.1)

pub returns : goal.returns
returns c =
    let given = c.args in
    judge_names (table_of given.table.now.kinds.now given.table.now.a.now given.table.now.b.now given.table.now.count) given.table.now.count (table_of_length given.table.now.kinds.now given.table.now.a.now given.table.now.b.now given.table.now.count)
    c.in_ok-first_fault.ensures.before c.judge_names.ensures

pub judge_names-requires : goal.judge_names-requires
judge_names-requires c = record { by_index = λ w h. (number-none _ w (c.in_ok-first_fault.ensures.before w h)).0 }
