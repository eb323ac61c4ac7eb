use native.Mathlib.Omega.{arith}
use mathlib.Core.Path.{refl}
use Rattle.verdict.proofs.PassedOn.{passed_on}
use Rattle.vetting.specs.StepLaws.{finds_stop, finds_next, found_stop, found_next}
use Rattle.vetting.specs.GoalWalk.{lists_begin, lists_end_lem, lists_room, lists_stop, lists_on}
use Rattle.vetting.proofs.judge_lists.Goals as goal

pub loop-size-init : goal.loop-size-init
loop-size-init c = lists_begin _ _ _ _ c.requires.2

pub judge_listed-requires : goal.judge_listed-requires
judge_listed-requires c =
    let left = c.loop-size.invariant in
    (omega arith, lists_room left c.loop-size-test.true c.wide-listed.result c.wide-listed.ensures, omega (arith, left.near))

pub returns-in_err-at : goal.returns-in_err-at
returns-in_err-at c =
    rw (passed_on _ c.from_residual.ensures.1)
    (finds_stop (lists_stop c.loop-size.invariant c.loop-size-test.true c.wide-listed.result c.wide-listed.ensures (found_stop c.in_err-at.ensures)) refl)

pub overflow_add-start : goal.overflow_add-start
overflow_add-start c =
    omega (arith, lists_room c.loop-size.invariant c.loop-size-test.true c.wide-listed.result c.wide-listed.ensures)

pub loop-size-preserved : goal.loop-size-preserved
loop-size-preserved c =
    lists_on c.loop-size.invariant c.loop-size-test.true c.wide-listed.result c.wide-listed.ensures
    (found_next c.in_ok-at.ensures) (c.in_ok-at.ensures.near _ refl)

pub returns : goal.returns
returns c = finds_next (lists_end_lem c.loop-size.invariant (omega arith)) (omega (arith, c.loop-size.invariant.near))
