-- a refusal of the claim's beginning is that of both files
use mathlib.Core.Path.{◌≡◌, sym, ap}
use mathlib.Core.List.{List}
use Prim.Native.Nat.{ℕ}
use Rattle.verdict.specs.Shown.{shown}
use Rattle.verdict.specs.Verdict as verdicts
use Rattle.encoding.specs.File.{refused}
use Rattle.claim_files.specs.ReadClaim.{read_claim_lem}
use Rattle.claims.specs.ClaimBeginning.{beginning_refused}
use Rattle.reader.specs.Begins.{claim_refuses}
use Rattle.demands.specs.Check.{answer, verdict}
use Rattle.verdict.proofs.PassedOn.{passed_on}
use Rattle.single.proofs.judge_files.Goals as goal

refused_early : (claim proof : List ℕ) {n q : ℕ} → read_claim_lem claim ≡ refused n q → verdicts.refused n q ≡ verdict claim proof
unfolding verdict
refused_early claim proof e = sym (ap answer (claim_refuses claim e proof))

pub returns-in_err-judge_beginning : goal.returns-in_err-judge_beginning
returns-in_err-judge_beginning c = rw (passed_on _ c.from_residual.ensures.1) (refused_early _ _ (beginning_refused c.judge_beginning.ensures.stands (ap shown c.in_err-judge_beginning.was)))
