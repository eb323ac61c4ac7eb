-- One size, which is the number of members.
use native.Mathlib.Omega.{arith}
use mathlib.Core.Path.{sym, ◌∙◌}
use Rattle.vetting.specs.StepLaws.{finds_stop, finds_as}
use Rattle.vetting.specs.CountLaws.{goal_unfit, goal_fits}
use Rattle.vetting.proofs.judge_goal.Goals as goal
use Rattle.vetting.proofs.judge_goal.Goals.{then-sizes-ne1-via-then-sizes-ne1, then-sizes-ne1-via-else-sizes-ne1+then-wide-members}

pub returns-then-sizes-ne1 : goal.returns-then-sizes-ne1
returns-then-sizes-ne1 c =
    finds_stop (goal_unfit _ c.args.sizes.now c.args.members.now _ (λ one all.
    elim c.then-sizes-ne1.branch [
      | then-sizes-ne1-via-then-sizes-ne1 w ↦ w.if-sizes-ne1.true one
      | then-sizes-ne1-via-else-sizes-ne1+then-wide-members w ↦ w.if-wide-members.true (w.wide.ensures ∙ all)
    ])) c.at.ensures

pub returns : goal.returns
returns c =
    finds_as (goal_fits _ c.args.sizes.now c.args.members.now _ c.if-sizes-ne1.false (sym c.wide.ensures ∙ c.if-wide-members.false)) (omega arith) c.judge_listed.ensures
