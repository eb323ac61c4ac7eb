-- the edges from the states below s are there
use Rattle.edges.specs.Added.{Added}
use Rattle.edges.specs.Edges.{FromBelow}
use Rattle.edges.proofs.edge_rows.Given as goal

abbrev pub invariant-loop-s : goal.invariant-loop-s
invariant-loop-s l = Added (FromBelow l.s l.table.marks.now l.used l.table.n) l.initial.rows l.rows
