-- what the writer lays down: what holds of it over the definitions, and of the records of accepted files
use Rattle.std.specs.Prelude.{◌≡◌, true, false, ◌||◌, List, ℕ, ◌<◌, ◌≤◌, length, take, drop}
use Rattle.std.proofs.Math.Path.{refl}
use Rattle.std.proofs.Common.{ap, ◌∙◌, arith}
use borrow.Author.Tests.{lt-ltb, eq-eqb, ne_eqb}
use Rattle.std.proofs.Math.Seq.{take-append_seam, drop-append_seam}
use Rattle.verdict.specs.Verdict as verdicts
use Rattle.verdict.specs.Verdict.{accepted}
use Rattle.verdict.specs.VerdictLaws.{scan_holds}
use Rattle.encoding.specs.Encode.{Bytes}
use Rattle.encoding.specs.File.{Reading, refused, good}
use Rattle.formula.specs.Nodes.{Proof}
use Rattle.formula.specs.Claim.{Form, clm1, clm2, form_number, Claim, SpelledClaim, Derivation}
use Rattle.claim_files.specs.ReadClaim.{read_claim_lem}
use Rattle.proof_files.specs.ReadProof.{read_proof}
use Rattle.reader.specs.Files.{Files, firstly, and_then, files, read_formed_lem}
use Rattle.reader.specs.FilesExact.{formed_exactly}
use Rattle.reader.proofs.FilesExact.{files_exactly}
use Rattle.calculus.specs.Tree.{Trees}
use Rattle.calculus.specs.View.{plain}
use Rattle.calculus.specs.Judge.{children_fit, adopted}
use Rattle.calculus.specs.TreeLaws.{children_fit_tells, adopted_tells, tree_children, tree_adopted}
use Rattle.tree.specs.Owners.{tree_judged, orphans_judged}
use Rattle.writing.specs.RecordBytes.{claim_head, proof_head}
use Rattle.writing.specs.Goals.{goals_fit, roots_fit}
use Rattle.writing.specs.Writing.{ClaimRecords, ProofRecords, claim_file, proof_file, short_claim, short_proof, if_form, if_room, goal_place, stopped}
use Rattle.writing.specs.Writing.{claim_reading, proof_reading, both_reading, writing_claim, writing_proof, laid_into}
use Rattle.writing.specs.ClaimEnds.{longest_claim}
use Rattle.writing.specs.ProofEnds.{longest_proof}
use Rattle.writing.specs.ClaimTrips.{claim_of, form_named, ClaimGiven}
use Rattle.writing.proofs.ClaimTrips.{claim_laid, claim_writes_again}
use Rattle.writing.specs.ProofTrips.{derivation_of, ProofGiven, LongProof, both_read}
use Rattle.writing.proofs.ProofTrips.{proof_laid, proof_writes_again}
use Rattle.demands.specs.Correct.{Correct}

-- what the output slice holds
pub refused_untouched : (w : Reading (List ℕ)) (out : List ℕ) {n q : ℕ} → w ≡ refused n q → laid_into w out ≡ out
refused_untouched w out h = rw h refl

pub file_in_front : (w : Reading (List ℕ)) (out : List ℕ) {file : List ℕ} → w ≡ good file
    → (take (length file) (laid_into w out) ≡ file) × (drop (length file) (laid_into w out) ≡ drop (length file) out)
file_in_front w out {file} h = rw h (take-append_seam file (drop (length file) out), drop-append_seam file (drop (length file) out))

-- a number that names no form
no_form : {n : ℕ} (next : Form → Reading (List ℕ)) → ((f : Form) → n ≡ form_number f → ⊥) → if_form n next ≡ refused 10 0
no_form {n} next h = rw (ne_eqb n (form_number clm1) (h clm1), ne_eqb n (form_number clm2) (h clm2)) refl

-- where a file ends that goes no further, the writer's own refusal is given; what the reader finds before stands
stopped_early : {A B : Type 0} {r : Reading A} (early n q : ℕ) {p : ℕ} → r ≡ refused early p → stopped {B = B} early n q r ≡ refused n q
stopped_early early n q h = rw (h, eq-eqb early early refl) refl

stopped_whole : {A B : Type 0} {r : Reading A} (early n q : ℕ) {x : A} → r ≡ good x → stopped {B = B} early n q r ≡ refused n q
stopped_whole early n q h = rw h refl

stopped_before : {A B : Type 0} {r : Reading A} (early n q : ℕ) {m p : ℕ} → (m ≡ early → ⊥) → r ≡ refused m p → stopped {B = B} early n q r ≡ refused m p
stopped_before early n q {m} other h = rw (h, ne_eqb m early other) refl

-- what the reader makes of a claim's records
module _ (f : Form) (c : ClaimRecords) where
  pub fitting_goals : goals_fit f c.counts c.members ≡ true → claim_reading f c ≡ read_formed_lem (claim_file f c)
  unfolding claim_reading
  fitting_goals fit = rw fit refl

  module _ (unfit : goals_fit f c.counts c.members ≡ false) where
    pub unfit_goals : {p : ℕ} → read_claim_lem (claim_head f c.count (take c.count c.entries) (length c.counts)) ≡ refused 11 p
        → claim_reading f c ≡ refused 12 (goal_place c)
    unfolding claim_reading
    unfit_goals h = rw unfit (stopped_early 11 12 (goal_place c) h)

    pub unfit_whole : {x : SpelledClaim} → read_claim_lem (claim_head f c.count (take c.count c.entries) (length c.counts)) ≡ good x
        → claim_reading f c ≡ refused 12 (goal_place c)
    unfolding claim_reading
    unfit_whole h = rw unfit (stopped_whole 11 12 (goal_place c) h)

    pub unfit_before : {m p : ℕ} → (m ≡ 11 → ⊥) → read_claim_lem (claim_head f c.count (take c.count c.entries) (length c.counts)) ≡ refused m p
        → claim_reading f c ≡ refused m p
    unfolding claim_reading
    unfit_before other h = rw unfit (stopped_before 11 12 (goal_place c) other h)

-- and of a proof's beside a claim
module _ (f : Form) (d : ProofRecords) (k : Claim) where
  pub fitting_roots : roots_fit f (length k.goals) d.roots ≡ true → proof_reading f d k ≡ read_proof k (proof_file f d)
  unfolding proof_reading
  fitting_roots fit = rw fit refl

  module _ (unfit : roots_fit f (length k.goals) d.roots ≡ false) where
    pub unfit_roots : {p : ℕ} → read_proof k (proof_head f d.count) ≡ refused 31 p → proof_reading f d k ≡ refused 34 6
    unfolding proof_reading
    unfit_roots h = rw unfit (stopped_early 31 34 6 h)

    pub unfit_empty : {x : Derivation} → read_proof k (proof_head f d.count) ≡ good x → proof_reading f d k ≡ refused 34 6
    unfolding proof_reading
    unfit_empty h = rw unfit (stopped_whole 31 34 6 h)

    pub unfit_count : {m p : ℕ} → (m ≡ 31 → ⊥) → read_proof k (proof_head f d.count) ≡ refused m p → proof_reading f d k ≡ refused m p
    unfolding proof_reading
    unfit_count other h = rw unfit (stopped_before 31 34 6 other h)

-- a claim's records
module _ (c : ClaimRecords) (room : ℕ) where
  abbrev claim_rest : Form → Reading (List ℕ)
  claim_rest f = and_then (claim_reading f c) (λ _. if_room room (claim_file f c))

  pub claim_first : short_claim c ≡ true → writing_claim c room ≡ refused 1 0
  unfolding writing_claim
  claim_first short = rw short refl

  pub claim_formless : short_claim c ≡ false → ((f : Form) → c.form ≡ form_number f → ⊥) → writing_claim c room ≡ refused 10 0
  unfolding writing_claim
  claim_formless long none = rw (long, no_form claim_rest none) refl

  module _ (f : Form) (named : c.form ≡ form_number f) where
    pub claim_refuses : short_claim c ≡ false → {n q : ℕ} → claim_reading f c ≡ refused n q → writing_claim c room ≡ refused n q
    unfolding writing_claim
    claim_refuses long h = rw (long, form_named f claim_rest named, h) refl

    pub claim_last : short_claim c ≡ false → (k : Claim) → claim_reading f c ≡ good k → room < length (claim_file f c) → writing_claim c room ≡ refused 70 0
    unfolding writing_claim
    claim_last long k h less = rw (long, form_named f claim_rest named, h, lt-ltb room (length (claim_file f c)) less) refl

    pub claim_back : {file : List ℕ} → writing_claim c room ≡ good file
        → (read_formed_lem file ≡ good (claim_of f c)) × ClaimGiven c (claim_of f c) × (length file ≤ longest_claim f)
    claim_back {file} h =
        let laid = claim_laid c room f named file h in
        (ap read_formed_lem laid.is ∙ laid.writable.back, laid.writable.given named, omega (arith, ap length laid.is, laid.writable.near))

  -- a proof's over them
  module _ (d : ProofRecords) where
    abbrev proof_rest : Form → Reading (List ℕ)
    proof_rest f = and_then (both_reading f c d) (λ x. firstly (tree_judged x.beside.roots x.beside.nodes) (if_room room (proof_file f d)))

    pub proof_first : (short_claim c || short_proof d) ≡ true → writing_proof c d room ≡ refused 1 0
    unfolding writing_proof
    proof_first short = rw short refl

    pub proof_formless : (short_claim c || short_proof d) ≡ false → ((f : Form) → c.form ≡ form_number f → ⊥) → writing_proof c d room ≡ refused 10 0
    unfolding writing_proof
    proof_formless long none = rw (long, no_form proof_rest none) refl

    module _ (f : Form) (named : c.form ≡ form_number f) where
      pub proof_refuses : (short_claim c || short_proof d) ≡ false → {n q : ℕ} → both_reading f c d ≡ refused n q → writing_proof c d room ≡ refused n q
      unfolding writing_proof
      proof_refuses long h = rw (long, form_named f proof_rest named, h) refl

      module _ (long : (short_claim c || short_proof d) ≡ false) (x : Files Derivation) (h : both_reading f c d ≡ good x) where
        pub proof_by_tree : {n q : ℕ} → tree_judged x.beside.roots x.beside.nodes ≡ verdicts.refused n q → writing_proof c d room ≡ refused n q
        unfolding writing_proof
        proof_by_tree tree = rw (long, form_named f proof_rest named, h, tree) refl

        pub proof_last : tree_judged x.beside.roots x.beside.nodes ≡ accepted → room < length (proof_file f d) → writing_proof c d room ≡ refused 70 0
        unfolding writing_proof
        proof_last tree less = rw (long, form_named f proof_rest named, h, tree, lt-ltb room (length (proof_file f d)) less) refl

      pub proof_back : {file : List ℕ} → writing_proof c d room ≡ good file
          → (files (claim_file f c) file ≡ good (record { claim = claim_of f c; beside = derivation_of f d })) × ProofGiven f d (derivation_of f d)
          × (length file ≤ longest_proof f (length c.counts))
      proof_back {file} h =
          let laid = proof_laid c d room f named file h in (
            ap (files (claim_file f c)) laid.is ∙ both_read (claim_file f c) (proof_file f d) laid.claim.back laid.writable.back,
            laid.writable.given,
            laid.near,
          )

-- trees earn no 35
tree_accepted : (roots : List ℕ) (p : Proof) → Trees roots p → tree_judged roots p ≡ accepted
tree_accepted roots p T =
    scan_holds (children_fit roots (plain p)) (λ _. 35) (length p) 0 (orphans_judged roots p)
    (λ v _ h. (children_fit_tells roots p v (omega arith)).holds (tree_children roots p T v (omega arith)))
    ∙ scan_holds (adopted roots (plain p)) (λ _. 35) (length p) 0 accepted (λ w _ h. (adopted_tells roots p w (omega arith)).holds (tree_adopted roots p T w (omega arith)))

module _ {claim proof : List ℕ} (bc : Bytes claim) (bp : Bytes proof) (k : Correct claim proof) (c : ClaimRecords) (given : ClaimGiven c k.read.claim)
    (long : 256 ≤ length c.entries) (room : ℕ) where
  pub accepted_claim_again : length claim ≤ room → writing_claim c room ≡ good claim
  accepted_claim_again fits = claim_writes_again c room k.read.claim bc ((formed_exactly claim bc).gives k.read.claim k.formed.claim_formed) given long fits

  pub accepted_proof_again : (d : ProofRecords) → ProofGiven k.read.claim.form d k.read.beside → LongProof d → length proof ≤ room → writing_proof c d room ≡ good proof
  accepted_proof_again d nodes long_nodes fits =
      proof_writes_again c d room k.read bc bp ((files_exactly claim proof bc bp).gives k.read k.formed)
      (tree_accepted k.read.beside.roots k.read.beside.nodes k.tree) given nodes long long_nodes fits
