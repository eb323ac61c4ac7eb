-- before parent v: the table holds the owners below v, and the children of all nodes below v fit
use mathlib.Core.List.{List}
use Prim.Native.Nat.{ℕ}
use Rattle.tree.specs.Columned.{TakenIn}
use Rattle.tree.specs.TreeStages.{FitBelow}
use Rattle.tree.proofs.adopt_all.Given as goal

abbrev pub invariant-loop-v : goal.invariant-loop-v
invariant-loop-v l =
    (roots : List ℕ) → TakenIn roots l.tree 0 l.initial.owners → TakenIn roots l.tree l.v l.owners × FitBelow roots l.tree.rules.now l.tree.links.now l.tree.nodes l.v
