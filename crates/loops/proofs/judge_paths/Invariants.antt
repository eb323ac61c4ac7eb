-- before node v: no leaf below it has a bad path
use Rattle.loops.specs.LoopStages.{GoodBelow}
use Rattle.loops.proofs.judge_paths.Given as goal

abbrev pub invariant-loop-v : goal.invariant-loop-v
invariant-loop-v l = GoodBelow l.tree.rules.now l.tree.links.now l.tree.nodes l.bars l.boxes l.v
