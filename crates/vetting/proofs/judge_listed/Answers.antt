-- The count is judged before the members.
use native.Mathlib.Omega.{arith}
use Rattle.vetting.specs.StepLaws.{finds_stop, finds_as}
use Rattle.vetting.specs.CountLaws.{listed_out, listed_in}
use Rattle.vetting.proofs.judge_listed.Goals as goal

pub returns-then-listed-lt1 : goal.returns-then-listed-lt1
returns-then-listed-lt1 c = finds_stop (listed_out _ c.args.listed _ _ (λ k. omega (arith, c.then-listed-lt1.either, k.0, k.1))) c.at.ensures

pub returns : goal.returns
returns c = finds_as (listed_in _ c.args.listed _ _ (omega arith, omega arith)) (omega arith) c.judge_members.ensures
