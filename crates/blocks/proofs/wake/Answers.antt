use mathlib.Core.Path.{◌≡◌}
use native.Mathlib.Omega.{arith}
use Rattle.states.specs.Fill.{filled_set}
use Rattle.blocks.specs.Waking.{woken_word_lem, woken}
use Rattle.blocks.proofs.wake.Goals as goal

pub loop-i-preserved : goal.loop-i-preserved
loop-i-preserved c =
    let given = c.args in
    let before = c.loop-i.invariant in
    filled_set before _ (omega (arith, c.requires.1)) (woken_word_lem given.users.now given.block.now given.e given.waiting.now c.loop-i.i _ before)

pub returns : goal.returns
returns c = let q : c.loop-i.i ≡ 4 = omega arith in woken _ _ _ _ _ c.requires.1 (rw q at c.loop-i.invariant)
