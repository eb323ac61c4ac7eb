-- which files are well formed, and the refusal that others earn: its condition at its place, and nothing that comes before it in the order
use Rattle.std.specs.Prelude.{◌≡◌, List, ℕ}
use Rattle.formula.specs.Spelled.{records_of, zeros}
use Rattle.formula.specs.Claim.{Claim, SpelledClaim, claim_of, Derivation}
use Rattle.conditions.specs.Formed.{Formed, Unwritten, Earns}
use Rattle.claim_files.specs.ClaimFile.{ClaimFile}
use Rattle.claim_files.specs.ClaimDocument.{ClaimEarns}
use Rattle.proof_files.specs.ProofFile.{ProofFile}
use Rattle.proof_files.specs.ProofDocument.{ProofEarns}
use Rattle.reader.specs.Files.{Files}

pub record ClaimFormed (claim : List ℕ) (c : Claim) : Type 0 where
  pub spelled : SpelledClaim
  -- none of 10 to 14
  pub claim_file : ClaimFile claim spelled
  -- the claim has the records of what is spelled
  pub records : c ≡ claim_of spelled
  -- none of 20, 71 and 21 to 23
  pub formed : Formed c.entries
  pub unwritten : Unwritten (zeros spelled.spelling) c.entries

pub data ClaimUnformed (claim : List ℕ) (n q : ℕ) : Type 0 where
  -- 10 to 14: the claim by bytes
  by_bytes : ClaimEarns claim n q → ClaimUnformed claim n q
  -- 20 and 71 over all entries; 21, 22, 23 entry by entry
  by_table : (c : SpelledClaim) → ClaimFile claim c → Earns (zeros c.spelling) (records_of c.spelling) n q → ClaimUnformed claim n q

-- P: what the file beside the claim must be
pub record FilesFormed {A : Type 0} (claim : List ℕ) (P : Claim → A → Type 0) (f : Files A) : Type 0 where
  pub claim_formed : ClaimFormed claim f.claim
  pub beside_formed : P f.claim f.beside

-- E: what it earns, once the claim is well formed
pub data FilesUnformed (claim : List ℕ) (E : Claim → ℕ → ℕ → Type 0) (n q : ℕ) : Type 0 where
  by_claim : ClaimUnformed claim n q → FilesUnformed claim E n q
  by_beside : (c : Claim) → ClaimFormed claim c → E c n q → FilesUnformed claim E n q

-- a claim and a proof: none of 10 to 34
abbrev pub WellFormed : List ℕ → List ℕ → Files Derivation → Type 0
WellFormed claim proof f = FilesFormed claim (λ c d. ProofFile c proof d) f

-- 30 to 34 come after the claim's
abbrev pub IllFormed : List ℕ → List ℕ → ℕ → ℕ → Type 0
IllFormed claim proof n q = FilesUnformed claim (λ c. ProofEarns c proof) n q
