-- the verdict is exact: it accepts exactly the correct proofs, and refuses with exactly the refusal that is earned
use Rattle.std.specs.Prelude.{◌≡◌, ◌↔◌, List, ℕ}
use Rattle.std.proofs.Common.{◌∙◌}
use Rattle.verdict.specs.Verdict as verdicts
use Rattle.verdict.specs.Verdict.{accepted}
use Rattle.encoding.specs.Encode.{Bytes}
use Rattle.calculus.proofs.FaultLaws.{earned_refused}
use Rattle.reader.proofs.FilesExact.{files_exactly}
use Rattle.demands.specs.Correct.{Correct}
use Rattle.demands.specs.Check.{verdict}
use Rattle.demands.specs.Earned.{Earned, by_files, by_rules}
use Rattle.demands.specs.CheckExact.{by_reading, correct_verdict, given, verdict_correct, verdict_earned}

module _ (claim proof : List ℕ) (bc : Bytes claim) (bp : Bytes proof) where
  earned_verdict : {n q : ℕ} → Earned claim proof n q → verdict claim proof ≡ verdicts.refused n q
  earned_verdict {n} {q} (by_files e) = by_reading claim proof bc bp ((files_exactly claim proof bc bp).refuses n q e)
  earned_verdict (by_rules f w e) =
      by_reading claim proof bc bp ((files_exactly claim proof bc bp).gives f w) ∙ earned_refused f.claim f.beside (given w) e

  -- demand 3, second half
  pub exact : (verdict claim proof ≡ accepted) ↔ Correct claim proof
  exact = (verdict_correct claim proof bc bp, correct_verdict claim proof bc bp)

  -- no number lies, and it is the first
  pub refusal : {n q : ℕ} → (verdict claim proof ≡ verdicts.refused n q) ↔ Earned claim proof n q
  refusal = (verdict_earned claim proof bc bp, earned_verdict)
