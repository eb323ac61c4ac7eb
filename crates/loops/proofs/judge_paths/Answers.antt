use native.Mathlib.Omega.{arith}
use Rattle.loops.specs.LoopStages.{all_good, good_more, first_bad}
use Rattle.loops.proofs.judge_paths.Goals as goal

pub loop-v-init : goal.loop-v-init
loop-v-init c ss cs T w h = absurd (omega arith)

pub returns-then-not-path_good : goal.returns-then-not-path_good
returns-then-not-path_good c = first_bad _ _ _ _ _ _ c.loop-v.invariant c.loop-v-test.true _ c.path_good.ensures (c.if-not-path_good.true)

pub loop-v-preserved : goal.loop-v-preserved
loop-v-preserved c = good_more _ _ _ _ _ _ c.loop-v.invariant c.loop-v-test.true _ c.path_good.ensures (c.if-not-path_good.false)

pub returns : goal.returns
returns c = all_good _ _ _ _ _ _ c.loop-v.invariant c.loop-v-test.false
