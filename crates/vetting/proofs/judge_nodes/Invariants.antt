-- The nodes before v fit, and the rest is walked over from here.
use Rattle.proof_files.specs.ProofParts.{kind_table}
use Rattle.vetting.specs.NodeWalk.{NodesLeft}
use Rattle.vetting.proofs.judge_nodes.Given as goal

abbrev pub invariant-loop-v : goal.invariant-loop-v
invariant-loop-v l =
    NodesLeft (kind_table l.kinds l.entries) l.rules l.links l.counts l.codes l.nodes l.from l.v l.start l.at
