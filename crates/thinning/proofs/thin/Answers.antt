use mathlib.Core.Path.{refl}
use native.Mathlib.Omega.{arith}
use Rattle.thinning.specs.Marked.{thinning_starts, thinning_on, size-within}
use Rattle.thinning.proofs.thin.Goals as goal

pub loop-name-init : goal.loop-name-init
loop-name-init c = thinning_starts c.requires refl c.none.ensures c.lowest-name.ensures

pub pass-s-requires : goal.pass-s-requires
pass-s-requires c =
    let small = c.requires in
    (omega (arith, c.loop-name-test.true, small), size-within small c.loop-name.invariant c.loop-name-test.true)

pub loop-name-preserved : goal.loop-name-preserved
loop-name-preserved c =
    thinning_on c.requires c.loop-name.invariant c.loop-name-test.true _ c.only.ensures c.less-rest.ensures
    c.lowest-name-in-loop-name.ensures c.pass-s.ensures
