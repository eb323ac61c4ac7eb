-- before node v: all below v have their numbers, and v and those after it are only counted
use Rattle.spans.specs.Spans.{Numbered}
use Rattle.spans.proofs.number_nodes.Given as goal

abbrev pub invariant-loop-v : goal.invariant-loop-v
invariant-loop-v l = Numbered l.owners.table.now l.owners.nodes l.v l.initial.entries l.initial.exits l.entries l.exits
