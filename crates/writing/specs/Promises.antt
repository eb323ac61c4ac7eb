-- what the two calls of the writer promise: answer and output slice on every input, and the round trips
use Rattle.std.specs.Prelude.{◌≡◌, List, ℕ, ◌<◌, ◌≤◌, ◌^◌, length, take}
use Rattle.verdict.specs.Verdict.{accepted}
use Rattle.verdict.specs.Lists.{written}
use Rattle.encoding.specs.Encode.{Bytes}
use Rattle.encoding.specs.File.{good}
use Rattle.formula.specs.Claim.{Form, form_number, Claim, Derivation}
use Rattle.tree.specs.Owners.{tree_judged}
use Rattle.reader.specs.Files.{Files, read_formed_lem, files}
use Rattle.writing.specs.Writing.{ClaimRecords, ProofRecords, claim_file, writing_claim, writing_proof, file_number, laid_into}
use Rattle.writing.specs.ClaimEnds.{longest_claim}
use Rattle.writing.specs.ProofEnds.{longest_proof}
use Rattle.writing.specs.ClaimTrips.{claim_of, ClaimGiven}
use Rattle.writing.specs.ProofTrips.{derivation_of, ProofGiven, LongProof}

pub record WriteClaim (c : ClaimRecords) (out : List ℕ) (r : ℕ) (out' : List ℕ) : Type 0 where
  -- the file's length, or 2 ^ 32 + refusal × 65,536 + place, with the number and place the reader would give for the file
  pub answer : r ≡ file_number (writing_claim c (length out))
  -- the file in front of the slice, which is as it was beyond; with a refusal the slice is as it was
  pub laid : out' ≡ laid_into (writing_claim c (length out)) out
  -- reading a written file gives the records back, within the form
  pub back : (f : Form) → c.form ≡ form_number f → r < 2 ^ 32 → (read_formed_lem (take r out') ≡ good (claim_of f c)) × ClaimGiven c (claim_of f c)
  -- the records of a file that passes are written as its bytes
  pub again : (k : Claim) (claim : List ℕ) → Bytes claim → read_formed_lem claim ≡ good k → ClaimGiven c k
      → 256 ≤ length c.entries → length claim ≤ length out → (r ≡ length claim) × (out' ≡ written claim out)
  -- a claim is never longer
  pub near : (f : Form) → c.form ≡ form_number f → r < 2 ^ 32 → r ≤ longest_claim f

pub record WriteProof (c : ClaimRecords) (d : ProofRecords) (out : List ℕ) (r : ℕ) (out' : List ℕ) : Type 0 where
  pub answer : r ≡ file_number (writing_proof c d (length out))
  pub laid : out' ≡ laid_into (writing_proof c d (length out)) out
  -- reading a written file beside its claim gives the records back, within the form
  pub back : (f : Form) → c.form ≡ form_number f → r < 2 ^ 32
      → (files (claim_file f c) (take r out') ≡ good (record { claim = claim_of f c; beside = derivation_of f d })) × ProofGiven f d (derivation_of f d)
  -- the records of files that pass are written as the proof's bytes
  pub again : (x : Files Derivation) (claim proof : List ℕ) → Bytes claim → Bytes proof → files claim proof ≡ good x
      → tree_judged x.beside.roots x.beside.nodes ≡ accepted → ClaimGiven c x.claim → ProofGiven x.claim.form d x.beside
      → 256 ≤ length c.entries → LongProof d → length proof ≤ length out → (r ≡ length proof) × (out' ≡ written proof out)
  -- a proof is never longer
  pub near : (f : Form) → c.form ≡ form_number f → r < 2 ^ 32 → (r ≤ longest_proof f (length c.counts)) × (r ≤ 58406)
