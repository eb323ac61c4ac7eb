-- the call that joins keeps its promise
use Rattle.std.specs.Prelude.{◌≡◌, refl, ◌↔◌, List, ℕ, ◌+◌, ◌/◌, ◌%◌, ◌<◌, ◌≤◌, ◌^◌, length, take}
use Rattle.std.proofs.Common.{ap, ap₂, ◌∙◌, arith}
use Rattle.std.proofs.Math.Seq.{take-append_seam}
use Rattle.verdict.specs.Verdict as verdicts
use Rattle.verdict.specs.Verdict.{accepted, packed}
use Rattle.encoding.specs.Encode.{Bytes}
use Rattle.encoding.specs.File.{Reading, refused, good}
use Rattle.writing.specs.Writing.{laid_into}
use Rattle.demands.specs.Check.{verdict}
use Rattle.demands.specs.Correct.{Irrefutable}
use Rattle.demands.specs.Join.{Whole, join_files_lem, whole_number, whole_claim, whole_proof}
use Rattle.demands.specs.JoinExact.{Joinable, JoinEarned}
use Rattle.demands.proofs.JoinExact.{join_right, join_gives, join_refuses}
use Rattle.demands.proofs.Demands.{joined_accepted, joined_irrefutable}
use Rattle.demands.specs.JoinCall.{JoinCall}

module _ (e : ℕ) (claim proof other_claim other_proof : List ℕ) (b₁ : Bytes claim) (b₂ : Bytes proof) (b₃ : Bytes other_claim) (b₄ : Bytes other_proof)
    (claim_out proof_out : List ℕ) where
  abbrev joined : Reading Whole
  joined = join_files_lem e claim proof other_claim other_proof (length claim_out) (length proof_out)

  -- a number below 2 ^ 32 is that of a whole, whose lengths it tells
  record Told (r : ℕ) (claim_out' proof_out' : List ℕ) : Type 0 where
    whole : Whole
    was : joined ≡ good whole
    claim_front : take (r % 65536) claim_out' ≡ whole.claim
    proof_front : take (r / 65536) proof_out' ≡ whole.proof

  module _ (r : ℕ) (claim_out' proof_out' : List ℕ) (answer : r ≡ whole_number joined) (claim_laid : claim_out' ≡ laid_into (whole_claim joined) claim_out)
      (proof_laid : proof_out' ≡ laid_into (whole_proof joined) proof_out) where
    told : r < 2 ^ 32 → Told r claim_out' proof_out'
    told small = go joined refl answer claim_laid proof_laid
      where
        go : (w : Reading Whole) → joined ≡ w → r ≡ whole_number w → claim_out' ≡ laid_into (whole_claim w) claim_out → proof_out' ≡ laid_into (whole_proof w) proof_out
            → Told r claim_out' proof_out'
        go (refused n q) i a c p = absurd (omega arith)
        go (good w) i a c p =
            let near = (join_right e claim proof other_claim other_proof (length claim_out) (length proof_out) b₁ b₂ b₃ b₄ i).1.near in
            let x : r % 65536 ≡ length w.claim = omega (arith, near.0) in
            let y : r / 65536 ≡ length w.proof = omega (arith, near.0) in
            record {
              whole = w;
              was = i;
              claim_front = rw (x, c) (take-append_seam w.claim _);
              proof_front = rw (y, p) (take-append_seam w.proof _);
            }

    accepts : r < 2 ^ 32 → (verdict (take (r % 65536) claim_out') (take (r / 65536) proof_out') ≡ accepted) × Irrefutable (take (r % 65536) claim_out')
    accepts small =
        let t = told small in (
          ap₂ {C = verdicts.Verdict} verdict t.claim_front t.proof_front
              ∙ joined_accepted e claim proof other_claim other_proof (length claim_out) (length proof_out) b₁ b₂ b₃ b₄ t.was,
          rw t.claim_front (joined_irrefutable e claim proof other_claim other_proof (length claim_out) (length proof_out) b₁ b₂ b₃ b₄ t.was),
        )

    exact : (r < 2 ^ 32) ↔ Joinable e claim proof other_claim other_proof (length claim_out) (length proof_out)
    exact = (
      λ small. ((join_gives e claim proof other_claim other_proof (length claim_out) (length proof_out) b₁ b₂ b₃ b₄).0 (told small).was).0,
      λ J.
          let was = (join_gives e claim proof other_claim other_proof (length claim_out) (length proof_out) b₁ b₂ b₃ b₄).1 (J, refl) in
          let near = (join_right e claim proof other_claim other_proof (length claim_out) (length proof_out) b₁ b₂ b₃ b₄ was).1.near in
          omega (arith, answer ∙ ap whole_number was, near.0, near.1),
    )

    refuses : (n q : ℕ) → JoinEarned e claim proof other_claim other_proof (length claim_out) (length proof_out) n q → r ≡ 2 ^ 32 + packed (verdicts.refused n q)
    refuses n q k = answer ∙ ap whole_number ((join_refuses e claim proof other_claim other_proof (length claim_out) (length proof_out) b₁ b₂ b₃ b₄).1 k)

    refused_as : 2 ^ 32 ≤ r → (n : ℕ) × (q : ℕ) × JoinEarned e claim proof other_claim other_proof (length claim_out) (length proof_out) n q
        × (r ≡ 2 ^ 32 + packed (verdicts.refused n q))
    refused_as large = go joined refl
      where
        go : (w : Reading Whole) → joined ≡ w → (n : ℕ) × (q : ℕ) × JoinEarned e claim proof other_claim other_proof (length claim_out) (length proof_out) n q
            × (r ≡ 2 ^ 32 + packed (verdicts.refused n q))
        go (refused n q) i =
            (n, q, (join_refuses e claim proof other_claim other_proof (length claim_out) (length proof_out) b₁ b₂ b₃ b₄).0 i, answer ∙ ap whole_number i)
        go (good w) i =
            let near = (join_right e claim proof other_claim other_proof (length claim_out) (length proof_out) b₁ b₂ b₃ b₄ i).1.near in
            absurd (omega (arith, answer ∙ ap whole_number i, near.0, near.1))

    pub join_call : JoinCall e claim proof other_claim other_proof claim_out proof_out r claim_out' proof_out'
    join_call = record { answer = answer; claim_laid = claim_laid; proof_laid = proof_laid; accepts = accepts; exact = exact; refused_as = refused_as; refuses = refuses }
