-- The goals before this one fit, and the rest is walked over from here.
use Rattle.proof_files.specs.ProofParts.{kind_table}
use Rattle.vetting.specs.GoalWalk.{ListsLeft}
use Rattle.vetting.proofs.judge_lists.Given as goal

abbrev pub invariant-loop-size : goal.invariant-loop-size
invariant-loop-size l = ListsLeft (kind_table l.kinds l.count) l.sizes l.members l.from l.size-index l.start l.at
