-- before the node below v: those from v on are counted in their parents, and their roots with the trees
use mathlib.Core.List.{◌∷◌}
use Rattle.spans.specs.Spans.{Counted}
use Rattle.spans.proofs.count_nodes.Given as goal

abbrev pub invariant-loop-v : goal.invariant-loop-v
invariant-loop-v l = Counted l.owners.table.now l.owners.nodes l.v l.offsets (l.taken ∷ l.sizes)
