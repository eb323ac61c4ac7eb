-- before a node: no smaller one is without an owner
use Rattle.tree.specs.TreeStages.{NoOrphan}
use Rattle.tree.proofs.find_orphan.Given as goal

abbrev pub invariant-loop-node : goal.invariant-loop-node
invariant-loop-node l = NoOrphan l.owners l.node
