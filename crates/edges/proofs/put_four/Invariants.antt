-- the bits that are not left are put
use Rattle.bits.specs.Bits.{bit}
use Rattle.entry_sets.specs.Counting.{count}
use Rattle.edges.specs.Edges.{Putting}
use Rattle.edges.proofs.put_four.Given as goal

abbrev pub invariant-loop-rest : goal.invariant-loop-rest
invariant-loop-rest l = Putting l.marked l.n l.s l.u l.initial.rows l.rest l.rows

abbrev pub decreases-loop-rest : goal.decreases-loop-rest
decreases-loop-rest l = count 64 (bit l.rest)
