use mathlib.Core.Path.{◌≡◌}
use Prim.Native.Nat.{◌-◌, ◌*◌}
use native.Mathlib.Omega.{arith}
use Rattle.states.specs.TopDown.{upper_none}
use Rattle.states.proofs.TopDown.{upper_small, sixteen_small, upper_sixteen, upper_whole, word_cut}
use Rattle.successors.proofs.row_word.Goals as goal

pub loop-group-init : goal.loop-group-init
loop-group-init c = upper_none

pub overflow_mul-r : goal.overflow_mul-r
overflow_mul-r c = omega (arith, upper_small c.loop-group.invariant 16 64 (omega arith) (omega arith))

pub overflow_add-r : goal.overflow_add-r
overflow_add-r c =
    let U = c.loop-group.invariant in
    let e : 16 * (c.loop-group.group - 1) ≡ 16 * c.loop-group.group - 16 = omega arith in
    omega (arith, upper_small U 16 64 (omega arith) (omega arith), sixteen_small U (rw e at c.sixteen.ensures))

pub loop-group-preserved : goal.loop-group-preserved
loop-group-preserved c =
    let e : 16 * (c.loop-group.group - 1) ≡ 16 * c.loop-group.group - 16 = omega arith in
    rw e (upper_sixteen c.loop-group.invariant (rw e at c.sixteen.ensures) (omega arith))

pub returns : goal.returns
returns c = rw (c.all_states.ensures, upper_whole c.loop-group.invariant (omega arith)) (word_cut _ _ _ (omega arith))
