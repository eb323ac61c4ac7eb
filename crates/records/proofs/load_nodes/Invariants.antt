-- So many records are loaded, the next start is written, and the columns are unchanged beyond them.
use Rattle.records.specs.Records.{NodesLoaded}
use Rattle.records.proofs.load_nodes.Given as goal

abbrev pub invariant-loop-i : goal.invariant-loop-i
invariant-loop-i l = NodesLoaded l.nodes l.i l.fn.rules l.fn.links l.fn.starts l.rules l.links l.starts
