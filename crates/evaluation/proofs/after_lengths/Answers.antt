-- the claim's refusal stands; a claim that is well formed is held in the columns
use borrow.Author.Rules.{rules}
use mathlib.Core.Path.{refl}
use native.Mathlib.Omega.{arith}
use Rattle.verdict.proofs.PassedOn.{passed_on}
use Rattle.encoding.specs.ByteLaws.{lent_bytes}
use Rattle.claims.specs.ClaimWalk.{claim_as_read, claim_as_refused}
use Rattle.evaluation.specs.EvaluateStages.{staged_same, staged_refused, claim_refused, claim_goes_on, claim_given}
use Rattle.evaluation.proofs.after_lengths.Goals as goal

pub after_model-requires : goal.after_model-requires
after_model-requires c =
    claim_given _ c.args.model.now (claim_as_read _ _ _ _ _ c.read_formed.ensures c.in_ok-counts.was)
    (lent_bytes _ c.type_inv.claim) (search rules)

pub returns-in_err-counts : goal.returns-in_err-counts
returns-in_err-counts c =
    let was = claim_as_refused _ _ _ _ _ c.read_formed.ensures c.in_err-counts.was in
    staged_refused _ _ (claim_refused _ _ was) (passed_on _ c.from_residual.ensures.1, omega (arith, was.small))

pub returns : goal.returns
returns c =
    staged_same (claim_goes_on _ _ (claim_as_read _ _ _ _ _ c.read_formed.ensures c.in_ok-counts.was))
    c.after_model.ensures
