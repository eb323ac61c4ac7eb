-- what stands before the files, and then the claim's beginning
use Rattle.std.specs.Prelude.{◌≡◌, List, Bool, true, false, ℕ}
use Rattle.std.proofs.Math.Path.{refl}
use Rattle.std.proofs.Common.{sym, ap, ◌∙◌}
use Rattle.verdict.specs.Verdict as verdicts
use Rattle.verdict.specs.Verdict.{Verdict, accepted}
use Rattle.verdict.specs.ScanLaws.{after}
use Rattle.encoding.specs.File.{refused}
use Rattle.claim_files.specs.ReadClaim.{read_claim_lem}
use Rattle.claims.specs.ClaimBeginning.{beginning, Begun, beginning_refused}
use Rattle.reader.specs.Files.{firstly, read_formed_lem, files}

abbrev pub refusal : Verdict → Bool
refusal accepted = false
refusal (verdicts.refused n q) = true

-- what is answered, and that a refusal stands, whatever the proof is; acceptance says nothing of the files
pub record Begins (before : Verdict) (claim : List ℕ) (v : Verdict) : Type 0 where
  pub earned : v ≡ after before (beginning claim)
  pub stands : (n q : ℕ) → v ≡ verdicts.refused n q → (proof : List ℕ) → firstly before (files claim proof) ≡ refused n q

module _ (claim : List ℕ) where
  -- a claim that its bytes refuse is refused, whatever stands beside it
  pub claim_refuses : {n q : ℕ} → read_claim_lem claim ≡ refused n q → (proof : List ℕ) → files claim proof ≡ refused n q
  unfolding read_formed_lem files
  claim_refuses e proof = rw e refl

  module _ {before : Verdict} where
    pub before_refuses : {m o : ℕ} → before ≡ verdicts.refused m o → Begins before claim (verdicts.refused m o)
    before_refuses h = record { earned = sym (ap (λ (v : Verdict). after v (beginning claim)) h); stands = λ n q e proof. ap (λ (v : Verdict). firstly v (files claim proof)) (h ∙ e) }

    pub beginning_refuses : before ≡ accepted → {v : Verdict} → Begun claim v → Begins before claim v
    beginning_refuses h t = record { earned = t.earned ∙ sym (ap (λ (v : Verdict). after v (beginning claim)) h); stands = λ n q e proof. ap (λ (v : Verdict). firstly v (files claim proof)) h ∙ claim_refuses (beginning_refused t.stands e) proof }
