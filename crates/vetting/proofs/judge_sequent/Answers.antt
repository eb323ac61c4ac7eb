-- The count is judged before the codes.
use native.Mathlib.Omega.{arith}
use Rattle.vetting.specs.StepLaws.{finds_stop, finds_next, finds_as}
use Rattle.vetting.specs.CountLaws.{sequent_none, sequent_out, sequent_in}
use Rattle.vetting.proofs.judge_sequent.Goals as goal

pub returns-then-count-lt1 : goal.returns-then-count-lt1
returns-then-count-lt1 c = finds_next (sequent_none _ c.args.count _ _ (omega arith)) (omega arith)

pub returns-then-count-gt24 : goal.returns-then-count-gt24
returns-then-count-gt24 c = finds_stop (sequent_out _ c.args.count _ _ (omega arith)) c.at.ensures

pub returns : goal.returns
returns c = finds_as (sequent_in _ c.args.count _ _ (omega arith, omega arith)) (omega arith) c.judge_codes.ensures
