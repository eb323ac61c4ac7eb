use mathlib.Core.Path.{refl}
use Prim.Native.Nat.{◌<◌}
use native.Mathlib.Omega.{arith}
use Rattle.name_sets.specs.NameSets.{none_marks}
use Rattle.thinning.specs.Marked.{thinning_starts, thinning_on, size-within, grown_without}
use Rattle.thinning.proofs.size_of.Goals as goal

pub loop-name-init : goal.loop-name-init
loop-name-init c = thinning_starts c.requires refl none_marks c.lowest-name.ensures

pub overflow_add-size : goal.overflow_add-size
overflow_add-size c =
    let small = c.requires in
    record { fits = omega (arith, small, c.loop-name-test.true, size-within small c.loop-name.invariant c.loop-name-test.true) }

pub loop-name-preserved : goal.loop-name-preserved
loop-name-preserved c =
    let inside : c.loop-name.name < 256 = omega (arith, c.requires, c.loop-name-test.true) in
    thinning_on c.requires c.loop-name.invariant c.loop-name-test.true _ c.only.ensures c.less-rest.ensures
    c.lowest-name-in-loop-name.ensures (grown_without refl (none_marks c.loop-name.name inside) refl)
