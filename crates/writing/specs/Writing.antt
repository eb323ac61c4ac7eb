-- writing a claim and a proof: the file or the refusal, the number that is answered, what the output slice holds afterwards
use Rattle.std.specs.Prelude.{List, Bool, ◌||◌, ℕ, ◌+◌, ◌^◌, eqb, ltb, length, take}
use Rattle.verdict.specs.Verdict as verdicts
use Rattle.verdict.specs.Verdict.{packed}
use Rattle.verdict.specs.Lists.{written}
use Rattle.encoding.specs.Parse.{pick}
use Rattle.encoding.specs.File.{Reading, refused, good}
use Rattle.formula.specs.Table.{Table}
use Rattle.formula.specs.Claim.{Form, clm1, clm2, form_number, Claim, Derivation}
use Rattle.formula.specs.Records.{NodeRecord}
use Rattle.claim_files.specs.ReadClaim.{read_claim_lem}
use Rattle.proof_files.specs.ReadProof.{read_proof}
use Rattle.reader.specs.Files.{Files, firstly, and_then, read_formed_lem, beside_claim}
use Rattle.tree.specs.Owners.{tree_judged}
use Rattle.writing.specs.RecordBytes.{table_bytes, claim_bytes, claim_head, split, proof_bytes, proof_head}
use Rattle.writing.specs.Goals.{total, goals_fit, roots_fit}

-- a claim's records as they are given: the number of the form, the lent entries, how many of them count, the goals' member counts, the members
pub record ClaimRecords : Type 0 where
  pub form : ℕ
  pub entries : Table
  pub count : ℕ
  pub counts : List ℕ
  pub members : List ℕ

-- a proof's
pub record ProofRecords : Type 0 where
  pub nodes : List NodeRecord
  pub count : ℕ
  pub roots : List ℕ
  pub codes : List ℕ

-- the files that they make
abbrev pub claim_file : Form → ClaimRecords → List ℕ
claim_file f c = claim_bytes f c.count (take c.count c.entries) (split c.counts c.members)

abbrev pub proof_file : Form → ProofRecords → List ℕ
proof_file f d = proof_bytes f d.count d.roots (take d.count d.nodes) d.codes

-- 1: under 256 entries; for a proof also under 1,024 nodes or 24,576 codes
abbrev pub short_claim : ClaimRecords → Bool
short_claim c = ltb (length c.entries) 256

abbrev pub short_proof : ProofRecords → Bool
short_proof d = ltb (length d.nodes) 1024 || ltb (length d.codes) 24576

abbrev pub if_long : Bool → Reading (List ℕ) → Reading (List ℕ)
if_long short next = pick short (refused 1 0) next

-- 10: a number that is no form
abbrev pub if_form : ℕ → (Form → Reading (List ℕ)) → Reading (List ℕ)
if_form n next = pick (eqb n (form_number clm1)) (next clm1) (pick (eqb n (form_number clm2)) (next clm2) (refused 10 0))

-- 70: the output slice is shorter than the file, judged after the records
abbrev pub if_room : ℕ → List ℕ → Reading (List ℕ)
if_room room file = pick (ltb room (length file)) (refused 70 0) (good file)

-- of a file that ends where something would follow that does not fit: the reader's refusal stands, but for the file's end, in place of which this one is
-- given. It is given for a good file too: one of no goals is whole there, and a proof of no nodes
abbrev pub stopped : {A B : Type 0} → ℕ → ℕ → ℕ → Reading A → Reading B
stopped early n q (refused m p) = pick (eqb m early) (refused n q) (refused m p)
stopped early n q (good x) = refused n q

-- where the file has the goal count, and in CLM1 the member count
abbrev pub goal_place : ClaimRecords → ℕ
goal_place c = 4 + length (table_bytes c.count (take c.count c.entries))

-- what the reader says of the file, 20, 71 and 21 to 23 after 12 to 14 and 72; 12 for counts that do not add up to the members, after 72
unfoldable pub claim_reading : Form → ClaimRecords → Reading Claim
unfolding total read_formed_lem read_claim_lem
claim_reading f c =
    pick (goals_fit f c.counts c.members) (read_formed_lem (claim_file f c))
    (stopped 11 12 (goal_place c) (read_claim_lem (claim_head f c.count (take c.count c.entries) (length c.counts))))

-- beside a claim 32 to 34; 34 for roots that are not as many as the goals, after the node count
unfoldable pub proof_reading : Form → ProofRecords → Claim → Reading Derivation
unfolding read_proof
proof_reading f d k = pick (roots_fit f (length k.goals) d.roots) (read_proof k (proof_file f d)) (stopped 31 34 6 (read_proof k (proof_head f d.count)))

-- the claim's records first
unfoldable pub both_reading : Form → ClaimRecords → ProofRecords → Reading (Files Derivation)
unfolding claim_reading proof_reading
both_reading f c d = and_then (claim_reading f c) (beside_claim (proof_reading f d))

unfoldable pub writing_claim : ClaimRecords → ℕ → Reading (List ℕ)
unfolding claim_reading
writing_claim c room = if_long (short_claim c) (if_form c.form (λ f. and_then (claim_reading f c) (λ _. if_room room (claim_file f c))))

-- 35 after 32 to 34
unfoldable pub writing_proof : ClaimRecords → ProofRecords → ℕ → Reading (List ℕ)
unfolding both_reading
writing_proof c d room =
    if_long (short_claim c || short_proof d)
    (if_form c.form (λ f. and_then (both_reading f c d) (λ x. firstly (tree_judged x.beside.roots x.beside.nodes) (if_room room (proof_file f d)))))

-- the file's length, or 2 ^ 32 + refusal × 65,536 + place
abbrev pub file_number : Reading (List ℕ) → ℕ
file_number (refused n q) = 2 ^ 32 + packed (verdicts.refused n q)
file_number (good file) = length file

-- no refusal writes a byte; bytes beyond the end are untouched
abbrev pub laid_into : Reading (List ℕ) → List ℕ → List ℕ
laid_into (refused n q) out = out
laid_into (good file) out = written file out
