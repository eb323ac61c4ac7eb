-- joining two claims with their proofs (T-07): the claim and the proof of the whole, or a refusal; the number answered, and what the two output
-- slices hold afterwards
use Rattle.std.specs.Prelude.{List, ℕ, ◌+◌, ◌*◌, ◌^◌, length}
use Rattle.verdict.specs.Verdict as verdicts
use Rattle.verdict.specs.Verdict.{Verdict, packed, pick}
use Rattle.encoding.specs.Encode.{encode_all}
use Rattle.encoding.specs.File.{Reading, refused, good}
use Rattle.encoding.specs.Opening.{opens}
use Rattle.formula.specs.Claim.{clm1, Derivation}
use Rattle.claim_files.specs.ClaimFile.{claim_opening}
use Rattle.calculus.specs.Goals.{goal}
use Rattle.reader.specs.Files.{Files, firstly, and_then, files}
use Rattle.joining.specs.Goals.{joined_goal}
use Rattle.joining.specs.Joined.{claim_bytes, proof_bytes, joined_proof}
use Rattle.joining.specs.Answer.{joining}
use Rattle.demands.specs.Check.{verdict}

-- a claim with its proof, "in the CLM1 and PRF1 forms only (another opening gets 10 or 30)": beside a CLM1 claim the check itself gives 30
unfoldable pub half_verdict : List ℕ → List ℕ → Verdict
unfolding opens verdict
half_verdict claim proof = pick (opens (claim_opening clm1) claim) (verdict claim proof) (verdicts.refused 10 0)

pub record Whole : Type 0 where
  pub claim : List ℕ
  pub proof : List ℕ

-- two inputs that were read, the entry, and the lengths of the two output slices
unfoldable pub whole_of : Files Derivation → Files Derivation → ℕ → Whole
unfolding joined_goal encode_all
whole_of f g e =
    let t = f.claim.entries in
    record {
      claim = claim_bytes t (joined_goal t e (goal f.claim 0) (goal g.claim 0));
      proof = proof_bytes (joined_proof t e (goal f.claim 0) (goal g.claim 0) f.beside.nodes g.beside.nodes);
    }

-- 73, 74 and 70, in this order
unfoldable pub joined_by : Files Derivation → Files Derivation → ℕ → ℕ → ℕ → Reading Whole
unfolding joining whole_of
joined_by f g e claim_room proof_room = firstly
    (joining f.claim.entries g.claim.entries (goal f.claim 0) (goal g.claim 0) f.beside.nodes g.beside.nodes e claim_room proof_room)
    (good (whole_of f g e))

-- "Both inputs are judged first, the first before the second, by their own refusals"
unfoldable pub join_files_lem : ℕ → List ℕ → List ℕ → List ℕ → List ℕ → ℕ → ℕ → Reading Whole
unfolding half_verdict files joined_by
join_files_lem e claim proof other_claim other_proof claim_room proof_room =
    firstly (half_verdict claim proof)
    (firstly (half_verdict other_claim other_proof)
    (and_then (files claim proof) (λ f. and_then (files other_claim other_proof) (λ g. joined_by f g e claim_room proof_room))))

-- claim length + 65,536 × proof length, or 2 ^ 32 + refusal × 65,536 + place
abbrev pub whole_number : Reading Whole → ℕ
whole_number (refused n q) = 2 ^ 32 + packed (verdicts.refused n q)
whole_number (good w) = length w.claim + 65536 * length w.proof

-- what is laid into each slice
abbrev pub whole_claim : Reading Whole → Reading (List ℕ)
whole_claim (refused n q) = refused n q
whole_claim (good w) = good w.claim

abbrev pub whole_proof : Reading Whole → Reading (List ℕ)
whole_proof (refused n q) = refused n q
whole_proof (good w) = good w.proof
