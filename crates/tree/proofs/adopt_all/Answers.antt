use native.Mathlib.Omega.{arith}
use Rattle.tree.specs.TreeStages.{fit_more, children_refused, children_accepted}
use Rattle.tree.proofs.adopt_all.Goals as goal

pub returns-then-not-adopt : goal.returns-then-not-adopt
returns-then-not-adopt c roots taken =
    let (taken_here, fit) = c.loop-v.invariant roots taken in
    children_refused roots _ _ _ fit (c.adopt.ensures roots taken_here) c.loop-v-test.true (c.if-not-adopt.true)

pub loop-v-preserved : goal.loop-v-preserved
loop-v-preserved c roots taken =
    let (taken_here, fit) = c.loop-v.invariant roots taken in
    let told = c.adopt.ensures roots taken_here in
    (told.taken (c.if-not-adopt.false), fit_more roots _ _ _ fit told (c.if-not-adopt.false))

pub returns : goal.returns
returns c roots taken =
    let (taken_here, fit) = c.loop-v.invariant roots taken in
    children_accepted roots _ _ _ c.loop-v-test.false (omega (arith, c.loop-v.auto)) fit taken_here
