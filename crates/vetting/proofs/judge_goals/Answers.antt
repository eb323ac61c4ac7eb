-- 72 first, then the sum, then the goals.
use native.Mathlib.Omega.{arith}
use mathlib.Core.Path.{sym, ◌∙◌}
use Rattle.vetting.specs.StepLaws.{finds_stop, finds_as}
use Rattle.vetting.specs.CountLaws.{goals_out, goals_unfit, goals_fit_lem}
use Rattle.vetting.proofs.judge_goals.Goals as goal

pub returns-then-sizes-gt16 : goal.returns-then-sizes-gt16
returns-then-sizes-gt16 c =
    finds_stop (goals_out _ c.args.sizes.now c.args.members.now _ (omega arith)) c.at.ensures

pub returns-then-total-members : goal.returns-then-total-members
returns-then-total-members c =
    finds_stop (goals_unfit _ c.args.sizes.now c.args.members.now _ (omega arith) (λ k. c.if-total-members.true (c.total.ensures ∙ k))) c.at-then-total-members.ensures

pub returns : goal.returns
returns c =
    finds_as (goals_fit_lem _ c.args.sizes.now c.args.members.now _ (omega arith) (sym c.total.ensures ∙ c.if-total-members.false)) (omega arith) c.judge_lists.ensures
