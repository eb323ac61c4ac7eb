-- what the writer answers, by where the walk over the records ends
use Rattle.std.specs.Prelude.{◌≡◌, List, true, false, ◌||◌, ℕ, ◌<◌, ◌≤◌, ltb, length}
use Rattle.std.proofs.Math.Path.{refl}
use Rattle.std.proofs.Common.{lt-ltb, le-ltb, ne_eqb}
use Rattle.formula.specs.Table.{Table}
use Rattle.formula.specs.Claim.{Form, clm1, clm2, form_number}
use Rattle.formula.specs.Records.{NodeRecord}
use Rattle.encoding.specs.Parse.{pick}
use Rattle.encoding.specs.File.{Reading, refused, good}
use Rattle.tree.specs.Owners.{tree_judged}
use Rattle.reader.specs.Files.{firstly, and_then}
use Rattle.writing.specs.Writing.{ClaimRecords, ProofRecords, claim_file, proof_file, short_claim, short_proof, if_form, if_room, claim_reading, both_reading, writing_claim, writing_proof}
use Rattle.writing.specs.Ends.{End, next, stop}
use Rattle.writing.specs.Held.{EntriesHeld, NodesHeld}

-- by what the judges found: a refusal stands, else the file, where the slice has room for it
abbrev pub answered : End → ℕ → List ℕ → Reading (List ℕ)
answered (stop m q) room file = refused m q
answered (next o) room file = pick (ltb room o) (refused 70 0) (good file)

no_form : {n : ℕ} (g : Form → Reading (List ℕ)) → (n ≡ form_number clm1 → ⊥) → (n ≡ form_number clm2 → ⊥) → if_form n g ≡ refused 10 0
no_form {n} g h k = rw (ne_eqb n 1 h, ne_eqb n 2 k) refl

module _ (form : ℕ) (es : Table) (n : ℕ) (ks xs ys gs ms : List ℕ) (held : EntriesHeld es n ks xs ys) where
  abbrev given : ClaimRecords
  given = record { form = form; entries = es; count = n; counts = gs; members = ms }

  abbrev claimed : ℕ → Form → Reading (List ℕ)
  claimed room f = and_then (claim_reading f given) (λ _. if_room room (claim_file f given))

  -- 1
  pub claim_short : length es < 256 → (room : ℕ) → writing_claim given room ≡ refused 1 0
  unfolding writing_claim
  claim_short h room = rw (lt-ltb (length es) 256 h) refl

  module _ (long : 256 ≤ length es) where
    pub enough_claim : short_claim given ≡ false
    enough_claim = le-ltb (length es) 256 long

    -- 10
    pub claim_formless : (form ≡ form_number clm1 → ⊥) → (form ≡ form_number clm2 → ⊥) → (room : ℕ) → writing_claim given room ≡ refused 10 0
    unfolding writing_claim
    claim_formless h k room = rw (enough_claim, no_form (claimed room) h k) refl

-- a proof's records over the same claim: its kinds are all that the judge of nodes looks at
module _ (form : ℕ) (es : Table) (n : ℕ) (ks xs ys gs ms : List ℕ) (held : EntriesHeld es n ks xs ys)
    (vs : List NodeRecord) (m : ℕ) (rs ls ns os cs : List ℕ) (held_nodes : NodesHeld vs m rs ls ns) where
  abbrev beside : ProofRecords
  beside = record { nodes = vs; count = m; roots = os; codes = cs }

  abbrev over : ClaimRecords
  over = record { form = form; entries = es; count = n; counts = gs; members = ms }

  abbrev proved : ℕ → Form → Reading (List ℕ)
  proved room f = and_then (both_reading f over beside) (λ x. firstly (tree_judged x.beside.roots x.beside.nodes) (if_room room (proof_file f beside)))

  -- 1
  pub proof_short : (short_claim over || short_proof beside) ≡ true → (room : ℕ) → writing_proof over beside room ≡ refused 1 0
  unfolding writing_proof
  proof_short h room = rw h refl

  module _ (long : 256 ≤ length es) (long_nodes : 1024 ≤ length vs) (long_codes : 24576 ≤ length cs) where
    pub enough_all : (short_claim over || short_proof beside) ≡ false
    enough_all = rw (le-ltb (length es) 256 long, le-ltb (length vs) 1024 long_nodes, le-ltb (length cs) 24576 long_codes) refl

    -- 10
    pub proof_formless : (form ≡ form_number clm1 → ⊥) → (form ≡ form_number clm2 → ⊥) → (room : ℕ) → writing_proof over beside room ≡ refused 10 0
    unfolding writing_proof
    proof_formless h k room = rw (enough_all, no_form (proved room) h k) refl
