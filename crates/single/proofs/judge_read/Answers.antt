-- a refusal before the rules stands; past it the rules judge what was read
use mathlib.Core.Path.{◌≡◌, refl, sym, ap, ◌∙◌}
use mathlib.Core.List.{List}
use Prim.Native.Nat.{ℕ}
use native.Mathlib.Omega.{arith}
use lib.ListN.{length-replicate}
use Rattle.formula.specs.Claim.{clm1}
use Rattle.encoding.specs.ByteLaws.{lent_bytes}
use Rattle.claims.specs.ClaimWalk.{claim_as_read}
use Rattle.reader.specs.Files.{files}
use Rattle.reader.specs.FilesLaws.{files_as_read, files_as_refused}
use Rattle.reader.proofs.FilesLaws.{few_read}
use Rattle.laid.specs.Readable.{readable, readable_judged}
use Rattle.demands.specs.Check.{answer, verdict}
use Rattle.verdict.proofs.PassedOn.{passed_on}
use Rattle.single.proofs.judge_read.Goals as goal

verdict_is : (claim proof : List ℕ) → verdict claim proof ≡ answer (files claim proof)
unfolding verdict
verdict_is claim proof = refl

pub read_beside-requires : goal.read_beside-requires
read_beside-requires c =
    (λ k is. few_read _ (lent_bytes _ c.type_inv.claim) (claim_as_read _ _ _ _ _ c.read_formed-formed.ensures is), length-replicate {A = ℕ} 16 0)

pub judge_rules-requires : goal.judge_rules-requires
judge_rules-requires c =
    readable _ _ (lent_bytes _ c.type_inv.claim) (lent_bytes _ c.type_inv.proof)
    (files_as_read _ _ _ _ _ _ (c.read_beside.ensures _ _ _ _ _ c.read_formed-formed.ensures) c.in_ok-counts.was)

pub returns-in_err-counts : goal.returns-in_err-counts
returns-in_err-counts c =
    rw (passed_on _ c.from_residual.ensures.1) (sym (verdict_is _ _ ∙ ap answer (files_as_refused _ _ _ _ _ _ (c.read_beside.ensures _ _ _ _ _ c.read_formed-formed.ensures) c.in_err-counts.was).was))

pub returns : goal.returns
returns c =
    let got = files_as_read _ _ _ _ _ _ (c.read_beside.ensures _ _ _ _ _ c.read_formed-formed.ensures) c.in_ok-counts.was in
    c.judge_rules.ensures clm1 ∙ sym (verdict_is _ _ ∙ ap answer got.was ∙ readable_judged _ _ (lent_bytes _ c.type_inv.claim) (lent_bytes _ c.type_inv.proof) got clm1)

pub invariant_of-columns : goal.invariant_of-columns
invariant_of-columns c = record { few = (files_as_read _ _ _ _ _ _ (c.read_beside.ensures _ _ _ _ _ c.read_formed-formed.ensures) c.in_ok-counts.was).held.entries }

pub invariant_of-goals : goal.invariant_of-goals
invariant_of-goals c = record { held = (files_as_read _ _ _ _ _ _ (c.read_beside.ensures _ _ _ _ _ c.read_formed-formed.ensures) c.in_ok-counts.was).held.goals }
