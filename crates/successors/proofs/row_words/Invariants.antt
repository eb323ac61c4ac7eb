-- the actions below a that are in the map have their rows
use Rattle.states.specs.Rows.{RowWords}
use Rattle.successors.proofs.row_words.Given as goal

abbrev pub invariant-loop-a : goal.invariant-loop-a
invariant-loop-a l = RowWords l.table.marks.now l.used l.table.n l.initial.rows l.a l.rows
