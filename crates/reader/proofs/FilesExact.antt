-- the reading is exact: it gives exactly the files that are well formed, and refuses others with exactly the refusal that they earn
use Rattle.std.specs.Prelude.{◌≡◌, refl, List, ℕ}
use Rattle.std.proofs.Math.Logic.{inl, inr}
use Rattle.encoding.specs.Encode.{Bytes}
use Rattle.encoding.specs.File.{Reading}
use Rattle.formula.specs.Claim.{Claim}
use Rattle.proof_files.specs.ProofFile.{ProofFile}
use Rattle.proof_files.specs.ProofDocument.{ProofEarns}
use Rattle.proof_files.proofs.ProofExact.{proof_good, good_proof}
use Rattle.proof_files.proofs.ProofFaults.{proof_refused, proof_earned}
use Rattle.reader.specs.Files.{read_formed_lem, beside_claim, reading, files}
use Rattle.reader.specs.WellFormed.{ClaimFormed, ClaimUnformed, FilesFormed, FilesUnformed, by_claim, by_beside, WellFormed, IllFormed}
use Rattle.reader.specs.Exactly.{Exactly, exactly_as, then_exactly, value_exactly}
use Rattle.reader.specs.FilesExact.{formed_exactly}

module _ (claim : List ℕ) (bc : Bytes claim) where
  -- then the file beside it
  module _ {A : Type 0} {read : Claim → Reading A} (P : Claim → A → Type 0) (E : Claim → ℕ → ℕ → Type 0) (x : (c : Claim) → Exactly (read c) (P c) (E c)) where
    beside_exactly : (c : Claim) → Exactly (beside_claim read c) (λ f. (f.claim ≡ c) × P c f.beside) (E c)
    beside_exactly c =
        exactly_as (then_exactly (P c) (E c) (λ y f. f ≡ record { claim = c; beside = y }) (λ y n q. ⊥) (read c) (x c) (λ y _. value_exactly (record { claim = c; beside = y })))
        (λ f (y, p, e). rw e (refl, p))
        (λ f (e, p). (f.beside, p, rw (← e) refl))
        (λ n q. elim [ inl e ↦ e | inr (y, p, e) ↦ absurd e ])
        (λ n q e. inl e)

    pub reading_exactly : Exactly (reading claim read) (FilesFormed claim P) (FilesUnformed claim E)
    reading_exactly =
        exactly_as (then_exactly (ClaimFormed claim) (ClaimUnformed claim) (λ c f. (f.claim ≡ c) × P c f.beside) E (read_formed_lem claim) (formed_exactly claim bc) (λ c _. beside_exactly c))
        (λ f (c, k, (e, p)). record { claim_formed = rw e k; beside_formed = rw e p })
        (λ f k. (f.claim, k.claim_formed, (refl, k.beside_formed)))
        (λ n q. elim [ inl e ↦ by_claim e | inr (c, k, e) ↦ by_beside c k e ])
        (λ n q. elim [ by_claim e ↦ inl e | by_beside c k e ↦ inr (c, k, e) ])

pub files_exactly : (claim proof : List ℕ) → Bytes claim → Bytes proof → Exactly (files claim proof) (WellFormed claim proof) (IllFormed claim proof)
unfolding files
files_exactly claim proof bc bp = reading_exactly claim bc (λ c d. ProofFile c proof d) (λ c. ProofEarns c proof) λ c. record {
  gives = λ d f. proof_good f;
  given = λ d h. good_proof bp h;
  refuses = λ n q e. proof_refused c e;
  earned = λ n q h. proof_earned c bp h;
}
