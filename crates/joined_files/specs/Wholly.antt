-- what is answered and what the two output slices hold afterwards, for a whole or a refusal
use Rattle.std.specs.Prelude.{◌≡◌, refl, List, ℕ, ◌+◌, ◌*◌, ◌^◌, length}
use Rattle.verdict.specs.Verdict as verdicts
use Rattle.verdict.specs.Verdict.{packed}
use Rattle.verdict.specs.Lists.{written}
use Rattle.encoding.specs.File.{Reading, refused, good}
use Rattle.writing.specs.Writing.{laid_into}
use Rattle.demands.specs.Join.{Whole, whole_number, whole_claim, whole_proof}

pub record Wholly (w : Reading Whole) (claim proof : List ℕ) (r : ℕ) (claim' proof' : List ℕ) : Type 0 where
  pub answer : r ≡ whole_number w
  pub claim_laid : claim' ≡ laid_into (whole_claim w) claim
  pub proof_laid : proof' ≡ laid_into (whole_proof w) proof

module _ {w : Reading Whole} {claim proof : List ℕ} {r : ℕ} where
  -- no refusal writes a byte
  pub wholly_refused : {n q : ℕ} → w ≡ refused n q → r ≡ 2 ^ 32 + packed (verdicts.refused n q) → Wholly w claim proof r claim proof
  wholly_refused e h = rw e (record { answer = h; claim_laid = refl; proof_laid = refl })

  pub wholly_good : {v : Whole} {claim' proof' : List ℕ} → w ≡ good v → r ≡ length v.claim + 65536 * length v.proof
      → claim' ≡ written v.claim claim → proof' ≡ written v.proof proof → Wholly w claim proof r claim' proof'
  wholly_good e h c p = rw e (record { answer = h; claim_laid = c; proof_laid = p })

  pub wholly_as : {v : Reading Whole} {claim' proof' : List ℕ} → w ≡ v → Wholly v claim proof r claim' proof' → Wholly w claim proof r claim' proof'
  wholly_as e h = rw e h
