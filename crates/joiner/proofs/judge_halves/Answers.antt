-- the first input's refusal stands; else the second's verdict
use mathlib.Core.Path.{◌∙◌, sym, ap}
use Rattle.verdict.proofs.PassedOn.{passed_on}
use Rattle.verdict.specs.Verdict.{Verdict}
use Rattle.verdict.specs.ScanLaws.{after}
use Rattle.demands.specs.Join.{half_verdict}
use Rattle.joiner.proofs.judge_halves.Goals as goal

pub returns-in_err-judge_half : goal.returns-in_err-judge_half
returns-in_err-judge_half c = rw (passed_on _ c.from_residual.ensures.1) (ap (λ (v : Verdict). after v (half_verdict c.args.claim2.now c.args.proof2.now)) c.in_err-judge_half.ensures)

pub returns : goal.returns
returns c = c.judge_half-2.ensures ∙ ap (λ (v : Verdict). after v (half_verdict c.args.claim2.now c.args.proof2.now)) c.in_ok-judge_half.ensures
