-- the judge accepts exactly the correct proofs of the claim
use Rattle.std.specs.Prelude.{◌≡◌, ◌↔◌}
use Rattle.formula.specs.Claim.{Claim, Derivation}
use Rattle.calculus.specs.CorrectNodes.{CorrectNodes}
use Rattle.verdict.specs.Verdict.{accepted}
use Rattle.calculus.specs.Judge.{judge}
use Rattle.calculus.specs.Goals.{Claimed}
use Rattle.calculus.specs.Given.{Given}
use Rattle.calculus.proofs.JudgeExact.{accepted_correct, correct_accepted}

module _ (c : Claim) (d : Derivation) (G : Given c d) where
  pub exact : (judge c d ≡ accepted) ↔ (CorrectNodes c d × Claimed c d)
  exact = (accepted_correct c d G, λ (C, R). correct_accepted c d G C R)
