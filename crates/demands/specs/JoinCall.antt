-- the promise of the call that joins: answer and both output slices on every input, what is joined is accepted, and what is refused is earned
use Rattle.std.specs.Prelude.{◌≡◌, ◌↔◌, List, ℕ, ◌+◌, ◌/◌, ◌%◌, ◌<◌, ◌≤◌, ◌^◌, length, take}
use Rattle.verdict.specs.Verdict as verdicts
use Rattle.verdict.specs.Verdict.{accepted, packed}
use Rattle.writing.specs.Writing.{laid_into}
use Rattle.demands.specs.Check.{verdict}
use Rattle.demands.specs.Correct.{Irrefutable}
use Rattle.demands.specs.Join.{join_files_lem, whole_number, whole_claim, whole_proof}
use Rattle.demands.specs.JoinExact.{Joinable, JoinEarned}

pub record JoinCall (e : ℕ) (claim proof other_claim other_proof claim_out proof_out : List ℕ) (r : ℕ) (claim_out' proof_out' : List ℕ) : Type 0 where
  -- claim length + 65,536 × proof length, or 2 ^ 32 + refusal × 65,536 + place
  pub answer : r ≡ whole_number (join_files_lem e claim proof other_claim other_proof (length claim_out) (length proof_out))
  -- each file in front of its slice, which is as it was beyond; with a refusal both slices are as they were
  pub claim_laid : claim_out' ≡ laid_into (whole_claim (join_files_lem e claim proof other_claim other_proof (length claim_out) (length proof_out))) claim_out
  pub proof_laid : proof_out' ≡ laid_into (whole_proof (join_files_lem e claim proof other_claim other_proof (length claim_out) (length proof_out))) proof_out
  -- joined: the check accepts what stands there, so its claim is irrefutable
  pub accepts : r < 2 ^ 32 → (verdict (take (r % 65536) claim_out') (take (r / 65536) proof_out') ≡ accepted) × Irrefutable (take (r % 65536) claim_out')
  -- exactly where the two inputs can be joined
  pub exact : (r < 2 ^ 32) ↔ Joinable e claim proof other_claim other_proof (length claim_out) (length proof_out)
  -- any other answer is a refusal that they earn, and what they earn is answered
  pub refused_as : 2 ^ 32 ≤ r → (n : ℕ) × (q : ℕ) × JoinEarned e claim proof other_claim other_proof (length claim_out) (length proof_out) n q
      × (r ≡ 2 ^ 32 + packed (verdicts.refused n q))
  pub refuses : (n q : ℕ) → JoinEarned e claim proof other_claim other_proof (length claim_out) (length proof_out) n q → r ≡ 2 ^ 32 + packed (verdicts.refused n q)
