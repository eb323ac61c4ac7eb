-- The roots before i rise, and the rest is walked over from here.
use Rattle.proof_files.specs.ReadProof.{is_node}
use Rattle.vetting.specs.WalkLaws.{RisingLeft}
use Rattle.vetting.proofs.judge_roots.Given as goal

abbrev pub invariant-loop-i : goal.invariant-loop-i
invariant-loop-i l = RisingLeft (is_node l.nodes) 34 l.roots 6 l.i l.least
