-- before root i the number stands at the roots before it
use Rattle.tree.specs.Stamps.{Stamped}
use Rattle.tree.proofs.stamp.Given as goal

abbrev pub invariant-loop-i : goal.invariant-loop-i
invariant-loop-i l = Stamped l.roots l.i l.number l.initial.owners l.owners
