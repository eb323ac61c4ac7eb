-- the claim's part of the reading is exact: it gives what is well formed, and refuses with the refusal that is earned
use Rattle.std.specs.Prelude.{◌≡◌, List, ℕ}
use Rattle.std.proofs.Math.Logic.{inl, inr}
use Rattle.encoding.specs.Encode.{Bytes}
use Rattle.formula.specs.Spelled.{records_of, zeros}
use Rattle.formula.specs.Claim.{SpelledClaim, claim_of}
use Rattle.conditions.specs.Judge.{judge_table}
use Rattle.conditions.specs.Formed.{Formed, Unwritten, Earns}
use Rattle.conditions.proofs.JudgeExact.{judge_accepts, judge_refuses}
use Rattle.claim_files.specs.ReadClaim.{read_claim_lem}
use Rattle.claim_files.specs.ClaimFile.{ClaimFile}
use Rattle.claim_files.specs.ClaimDocument.{ClaimEarns}
use Rattle.claim_files.proofs.ClaimExact.{claim_good, good_claim}
use Rattle.claim_files.proofs.ClaimFaults.{claim_refused, claim_earned}
use Rattle.reader.specs.Files.{formed, read_formed_lem}
use Rattle.reader.specs.WellFormed.{ClaimFormed, ClaimUnformed, by_bytes, by_table}
use Rattle.reader.specs.Exactly.{Exactly, exactly_as, then_exactly, first_exactly}

module _ (claim : List ℕ) (bc : Bytes claim) where
  claim_exactly : Exactly (read_claim_lem claim) (ClaimFile claim) (ClaimEarns claim)
  claim_exactly = record {
    gives = λ c f. claim_good f;
    given = λ c h. good_claim bc h;
    refuses = λ n q e. claim_refused e;
    earned = λ n q h. claim_earned bc h;
  }

  -- a table that passes, as it is spelled
  abbrev Passes : SpelledClaim → Type 0
  Passes c = Formed (records_of c.spelling) × Unwritten (zeros c.spelling) (records_of c.spelling)

  abbrev Fails : SpelledClaim → ℕ → ℕ → Type 0
  Fails c = Earns (zeros c.spelling) (records_of c.spelling)

  table_exactly : (c : SpelledClaim) → Exactly (formed c) (λ x. (x ≡ claim_of c) × Passes c) (Fails c)
  table_exactly c =
      let z = zeros c.spelling in
      let t = records_of c.spelling in
      first_exactly (judge_table z t) (claim_of c) (judge_accepts z t).1 (judge_accepts z t).0 (λ n q. (judge_refuses z t n q).1) (λ n q. (judge_refuses z t n q).0)

  pub formed_exactly : Exactly (read_formed_lem claim) (ClaimFormed claim) (ClaimUnformed claim)
  unfolding read_formed_lem
  formed_exactly =
      exactly_as (then_exactly (ClaimFile claim) (ClaimEarns claim) (λ c x. (x ≡ claim_of c) × Passes c) Fails (read_claim_lem claim) claim_exactly (λ c _. table_exactly c))
      (λ c (x, f, (e, (w, u))). record { spelled = x; claim_file = f; records = e; formed = rw e w; unwritten = rw e u })
      (λ c k. (k.spelled, k.claim_file, (k.records, (rw k.records at k.formed, rw k.records at k.unwritten))))
      (λ n q. elim [ inl e ↦ by_bytes e | inr (c, f, e) ↦ by_table c f e ])
      (λ n q. elim [ by_bytes e ↦ inl e | by_table c f e ↦ inr (c, f, e) ])
