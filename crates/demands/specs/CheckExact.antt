-- a verdict is accepted just when the proof is correct, and a refusal is one that is earned
use Rattle.std.specs.Prelude.{◌≡◌, refl, List, [], ℕ}
use Rattle.std.proofs.Common.{sym, ◌∙◌}
use Rattle.std.proofs.Math.Path.{ap}
use Rattle.verdict.specs.Verdict as verdicts
use Rattle.verdict.specs.Verdict.{accepted}
use Rattle.verdict.specs.VerdictLaws.{accepted_not_refused}
use Rattle.verdict.specs.EachLaws.{each_member}
use Rattle.encoding.specs.Encode.{Bytes}
use Rattle.encoding.specs.File.{Reading, refused, good}
use Rattle.formula.specs.Claim.{Derivation}
use Rattle.proof_files.specs.ProofRecords.{rooted, code_formula}
use Rattle.calculus.specs.Given.{Given}
use Rattle.calculus.specs.GoalLaws.{at_in}
use Rattle.calculus.proofs.JudgeExact.{accepted_correct, correct_accepted}
use Rattle.calculus.proofs.FaultLaws.{refused_earned}
use Rattle.reader.specs.Files.{Files, files}
use Rattle.reader.specs.WellFormed.{WellFormed}
use Rattle.reader.specs.FormedLaws.{member_formula, one_goal_lem}
use Rattle.reader.proofs.FilesExact.{files_exactly}
use Rattle.demands.specs.Correct.{Correct}
use Rattle.demands.specs.Check.{answer, verdict}
use Rattle.demands.specs.Earned.{Earned, by_files, by_rules}

-- what the rules are given by well-formed files
pub given : {claim proof : List ℕ} {f : Files Derivation} → WellFormed claim proof f → Given f.claim f.beside
given w = record {
  well = w.claim_formed.formed.well;
  claimed = λ i e h m. member_formula w.claim_formed _ (at_in [] _ i h) e m;
  rooted =
      let r = rooted (one_goal_lem w.claim_formed) w.beside_formed.fits in
      record { as_many = r.as_many; rising = r.rising; inside = λ x m. each_member r.each x m };
  members = λ v x l m. code_formula w.beside_formed v x m;
}

module _ (claim proof : List ℕ) (bc : Bytes claim) (bp : Bytes proof) where
  -- the verdict, by what was read
  pub by_reading : {r : Reading (Files Derivation)} → files claim proof ≡ r → verdict claim proof ≡ answer r
  unfolding verdict
  by_reading h = ap answer h

  pub correct_verdict : Correct claim proof → verdict claim proof ≡ accepted
  correct_verdict k =
      by_reading ((files_exactly claim proof bc bp).gives k.read k.formed)
      ∙ correct_accepted k.read.claim k.read.beside (given k.formed)
      (record { members = (given k.formed).members; tree = k.tree; keeps = k.keeps; loops = k.loops }) k.root

  pub verdict_correct : verdict claim proof ≡ accepted → Correct claim proof
  verdict_correct h = go (files claim proof) refl
    where
      go : (r : Reading (Files Derivation)) → files claim proof ≡ r → Correct claim proof
      go (refused n q) e = absurd (accepted_not_refused (sym (by_reading e) ∙ h))
      go (good f) e =
          let w = (files_exactly claim proof bc bp).given f e in
          let (k, r) = accepted_correct f.claim f.beside (given w) (sym (by_reading e) ∙ h) in
          record { read = f; formed = w; tree = k.tree; root = r; keeps = k.keeps; loops = k.loops }

  pub verdict_earned : {n q : ℕ} → verdict claim proof ≡ verdicts.refused n q → Earned claim proof n q
  verdict_earned {n} {q} h = go (files claim proof) refl
    where
      go : (r : Reading (Files Derivation)) → files claim proof ≡ r → Earned claim proof n q
      go (refused m o) e =
          let same : verdicts.refused m o ≡ verdicts.refused n q = sym (by_reading e) ∙ h in
          let i : m ≡ n = cc same in
          let j : o ≡ q = cc same in
          rw (← i, ← j) (by_files ((files_exactly claim proof bc bp).earned m o e))
      go (good f) e =
          let w = (files_exactly claim proof bc bp).given f e in
          by_rules f w (refused_earned f.claim f.beside (given w) (sym (by_reading e) ∙ h))
