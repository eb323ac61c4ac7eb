use mathlib.Core.Path.{◌≡◌}
use native.Mathlib.Omega.{arith}
use Rattle.states.specs.Fill.{filled_set}
use Rattle.entry_sets.specs.Sets.{joined_word, joined}
use Rattle.entry_sets.proofs.join.Goals as goal

pub loop-i-preserved : goal.loop-i-preserved
loop-i-preserved c =
    let before = c.loop-i.invariant in
    let given = c.args in
    filled_set before _ (omega (arith, c.requires)) (joined_word given.set.now given.more.now c.loop-i.i _ before)

pub returns : goal.returns
returns c = let q : c.loop-i.i ≡ 4 = omega arith in joined _ _ _ c.requires (rw q at c.loop-i.invariant)
