-- the two calls of the writer keep their promises
use Rattle.std.specs.Prelude.{◌≡◌, refl, List, ℕ, ◌<◌, ◌≤◌, ◌^◌, length, take}
use Rattle.std.proofs.Common.{ap, ◌∙◌, arith}
use Rattle.std.proofs.Math.Seq.{take-append_seam}
use Rattle.verdict.specs.Verdict.{accepted}
use Rattle.verdict.specs.Lists.{written}
use Rattle.encoding.specs.Encode.{Bytes}
use Rattle.encoding.specs.File.{Reading, refused, good}
use Rattle.formula.specs.Claim.{Form, form_number, Claim, Derivation}
use Rattle.tree.specs.Owners.{tree_judged}
use Rattle.reader.specs.Files.{Files, read_formed_lem, files}
use Rattle.writing.specs.Writing.{ClaimRecords, ProofRecords, claim_file, proof_file, writing_claim, writing_proof, file_number, laid_into}
use Rattle.writing.specs.ProofEnds.{longest_proof_lem}
use Rattle.writing.specs.ClaimTrips.{claim_of, ClaimGiven, ClaimLaid}
use Rattle.writing.proofs.ClaimTrips.{claim_laid, claim_writes_again}
use Rattle.writing.specs.ProofTrips.{derivation_of, ProofGiven, LongProof, ProofLaid, both_read}
use Rattle.writing.proofs.ProofTrips.{proof_laid, proof_writes_again}
use Rattle.writing.specs.Promises.{WriteClaim, WriteProof}

-- a number below 2 ^ 32 is a file's length, and the file stands in front of the slice
record Stands (out : List ℕ) (r : ℕ) (out' : List ℕ) (file : List ℕ) : Type 0 where
  pub long : r ≡ length file
  pub front : take r out' ≡ file

length_answered : (w : Reading (List ℕ)) (out : List ℕ) (r : ℕ) (out' : List ℕ) → r ≡ file_number w → out' ≡ laid_into w out → r < 2 ^ 32
    → (file : List ℕ) × (w ≡ good file) × Stands out r out' file
length_answered (refused n q) out r out' h laid small = absurd (omega arith)
length_answered (good file) out r out' h laid small = (file, refl, record { long = h; front = rw (h, laid) (take-append_seam file _) })

module _ (c : ClaimRecords) (out : List ℕ) (r : ℕ) (out' : List ℕ) (answer : r ≡ file_number (writing_claim c (length out))) (laid : out' ≡ laid_into (writing_claim c (length out)) out) where
  as_laid : (f : Form) → c.form ≡ form_number f → r < 2 ^ 32 → (file : List ℕ) × ClaimLaid f c (length out) file × Stands out r out' file
  as_laid f named small =
      let (file, was, stands) = length_answered (writing_claim c (length out)) out r out' answer laid small in
      (file, claim_laid c (length out) f named file was, stands)

  again : (k : Claim) (claim : List ℕ) → Bytes claim → read_formed_lem claim ≡ good k → ClaimGiven c k
      → 256 ≤ length c.entries → length claim ≤ length out → (r ≡ length claim) × (out' ≡ written claim out)
  again k claim bytes reads given long fits =
      let writes = claim_writes_again c (length out) k bytes reads given long fits in
      (answer ∙ ap file_number writes, laid ∙ ap (λ (w : Reading (List ℕ)). laid_into w out) writes)

  pub write_claim_lem : WriteClaim c out r out'
  write_claim_lem = record {
    answer = answer;
    laid = laid;
    back = λ f named small. let (file, l, s) = as_laid f named small in (ap read_formed_lem (s.front ∙ l.is) ∙ l.writable.back, l.writable.given named);
    again = again;
    near = λ f named small. let (file, l, s) = as_laid f named small in omega (arith, s.long, ap length l.is, l.writable.near);
  }

module _ (c : ClaimRecords) (d : ProofRecords) (out : List ℕ) (r : ℕ) (out' : List ℕ) (answer : r ≡ file_number (writing_proof c d (length out)))
    (laid : out' ≡ laid_into (writing_proof c d (length out)) out) where
  proof_as_laid : (f : Form) → c.form ≡ form_number f → r < 2 ^ 32 → (file : List ℕ) × ProofLaid f c d (length out) file × Stands out r out' file
  proof_as_laid f named small =
      let (file, was, stands) = length_answered (writing_proof c d (length out)) out r out' answer laid small in
      (file, proof_laid c d (length out) f named file was, stands)

  proof_back : (f : Form) → c.form ≡ form_number f → r < 2 ^ 32
      → (files (claim_file f c) (take r out') ≡ good (record { claim = claim_of f c; beside = derivation_of f d })) × ProofGiven f d (derivation_of f d)
  proof_back f named small =
      let (file, l, s) = proof_as_laid f named small in
      (ap (files (claim_file f c)) (s.front ∙ l.is) ∙ both_read (claim_file f c) (proof_file f d) l.claim.back l.writable.back, l.writable.given)

  proof_again : (x : Files Derivation) (claim proof : List ℕ) → Bytes claim → Bytes proof → files claim proof ≡ good x
      → tree_judged x.beside.roots x.beside.nodes ≡ accepted → ClaimGiven c x.claim → ProofGiven x.claim.form d x.beside
      → 256 ≤ length c.entries → LongProof d → length proof ≤ length out → (r ≡ length proof) × (out' ≡ written proof out)
  proof_again x claim proof bc bp reads tree claim_given given long_claim long fits =
      let writes = proof_writes_again c d (length out) x bc bp reads tree claim_given given long_claim long fits in
      (answer ∙ ap file_number writes, laid ∙ ap (λ (w : Reading (List ℕ)). laid_into w out) writes)

  pub write_proof_lem : WriteProof c d out r out'
  write_proof_lem = record {
    answer = answer;
    laid = laid;
    back = proof_back;
    again = proof_again;
    near = λ f named small.
        let (file, l, s) = proof_as_laid f named small in
        (omega (arith, s.long, l.near), omega (arith, s.long, l.near, longest_proof_lem f (length c.counts) l.claim.goals));
  }
