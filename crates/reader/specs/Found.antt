-- what was found of a claim and a proof
use Rattle.std.specs.Prelude.{◌≡◌, List, ℕ, ◌≤◌, length, take, Result, Ok, Err}
use Rattle.verdict.specs.Verdict.{Verdict}
use Rattle.verdict.specs.declared.Refusal.{Refusal}
use Rattle.encoding.specs.Encode.{Bytes}
use Rattle.encoding.specs.File.{Reading, good}
use Rattle.encoding.specs.Outcome.{RefusedWith}
use Rattle.formula.specs.Claim.{Form, clm1, form_number, Derivation}
use Rattle.formula.specs.Held.{ClaimHeld}
use Rattle.claims.specs.ClaimWalk.{ClaimRead, ClaimTells}
use Rattle.nodes.specs.ProofDecode.{nodes_place_lem}
use Rattle.claims.specs.declared.ClaimCounts.{ClaimCounts}
use Rattle.reader.specs.Files.{Files, files, firstly, read_formed_lem}
use Rattle.reader.specs.declared.FileCounts.{FileCounts}

-- the counts of both files, or a refusal
abbrev pub FilesRead : Type 0
FilesRead = Result FileCounts (Refusal ℕ)

-- both are well formed by bytes: n entries and k goals, which are held, their roots, and m nodes from a place on
pub record FilesGot (r : Reading (Files Derivation)) (ks xs ys gs ms os : List ℕ) (n k m at : ℕ) : Type 0 where
  pub files : Files Derivation
  pub was : r ≡ good files
  pub held : ClaimHeld files.claim ks xs ys n gs ms k
  pub roots : take k os ≡ files.beside.roots
  pub room : k ≤ length os
  pub nodes : m ≡ length files.beside.nodes
  pub place : at ≡ nodes_place_lem files.claim.form k
  pub near : at ≤ 38

abbrev pub FilesTell : Reading (Files Derivation) → List ℕ → List ℕ → List ℕ → List ℕ → List ℕ → List ℕ → FilesRead → Type 0
FilesTell r ks xs ys gs ms os (Ok c) = FilesGot r ks xs ys gs ms os c.entries c.goals c.nodes c.at
FilesTell r ks xs ys gs ms os (Err e) = RefusedWith r e.number e.place

-- a claim that was read has a form, at most 256 entries and 16 goals, one in the form for one
pub record FewRead (f n k : ℕ) : Type 0 where
  pub form : Form
  pub number : f ≡ form_number form
  pub entries : n ≤ 256
  pub goals : k ≤ 16
  pub one : form ≡ clm1 → k ≡ 1

abbrev pub Few : ClaimRead → Type 0
Few w = (c : ClaimCounts) → w ≡ Ok c → FewRead c.form c.entries c.goals

-- what is told of a proof beside a claim, by what was told of the claim
abbrev pub BesideTells : ClaimRead → List ℕ → List ℕ → List ℕ → FilesRead → Type 0
BesideTells formed proof ks os r =
    (claim xs ys gs ms : List ℕ) → ClaimTells (read_formed_lem claim) ks xs ys gs ms formed → FilesTell (files claim proof) ks xs ys gs ms os r

-- what is told of two lent files behind what stands before them, and that a lent slice of bytes holds bytes
pub record FilesTold (before : Verdict) (claim proof ks xs ys gs ms os : List ℕ) (f : FilesRead) : Type 0 where
  pub told : FilesTell (firstly before (files claim proof)) ks xs ys gs ms os f
  pub claim_bytes_lem : Bytes claim
  pub proof_bytes_lem : Bytes proof
