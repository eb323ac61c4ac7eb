-- the edges to the states below u are there
use mathlib.Core.Path.{◌≡◌}
use Prim.Native.Nat.{◌-◌, ◌%◌}
use Rattle.edges.specs.Added.{Added}
use Rattle.edges.specs.Edges.{FromTo}
use Rattle.edges.proofs.state_edges.Given as goal

abbrev pub invariant-loop-u : goal.invariant-loop-u
invariant-loop-u l = (l.u % 4 ≡ 0) × Added (FromTo l.s l.u l.table.marks.now l.used l.n) l.initial.rows l.rows

abbrev pub decreases-loop-u : goal.decreases-loop-u
decreases-loop-u l = l.n - l.u
