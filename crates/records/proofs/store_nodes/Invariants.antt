-- So many records are written, and the slice is unchanged beyond them.
use Rattle.std.specs.Prelude.{◌≡◌}
use Rattle.verdict.specs.Lists.{written}
use Rattle.records.specs.Records.{nodes_of}
use Rattle.records.proofs.store_nodes.Given as goal

abbrev pub invariant-loop-i : goal.invariant-loop-i
invariant-loop-i l = l.nodes ≡ written (nodes_of l.rules l.links l.starts l.i) l.initial.nodes
