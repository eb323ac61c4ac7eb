-- the rows of the states below s are the words of their marks
use Rattle.states.specs.Rows.{ActionRows}
use Rattle.successors.proofs.action_rows.Given as goal

abbrev pub invariant-loop-s : goal.invariant-loop-s
invariant-loop-s l = ActionRows l.table.marks.now l.table.n l.a l.initial.rows l.s l.rows
