-- The invariant is that of `thin` over no name of an operand: the names below the one that is next are passed.
use Prim.Native.Nat.{◌-◌}
use Rattle.name_sets.specs.declared.Names.{Names}
use Rattle.thinning.specs.Marked.{Thinning}
use Rattle.thinning.proofs.size_of.Given as goal

abbrev empty : Names
empty = record { 0 = 0; 1 = 0; 2 = 0; 3 = 0 }

abbrev pub invariant-loop-name : goal.invariant-loop-name
invariant-loop-name l = Thinning l.initial.rest empty l.count (record { marks = empty; size = l.size }) l.rest l.name

abbrev pub decreases-loop-name : goal.decreases-loop-name
decreases-loop-name l = 256 - l.name
