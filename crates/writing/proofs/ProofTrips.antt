-- what is written of a proof's records reads back to them, and the records of a proof that passes are written as its bytes
use Rattle.std.specs.Prelude.{◌≡◌, true, false, ◌||◌, leb}
use Rattle.std.proofs.Math.Path.{refl, sym, ap}
use Rattle.std.proofs.Common.{◌∙◌, arith, le-ltb, le-leb, eq-eqb}
use mathlib.Core.List.{List, ◌++◌, append_assoc}
use Prim.Native.Nat.{ℕ, ◌+◌, ◌*◌, ◌≤◌}
use Rattle.std.proofs.Math.ListN.{length, take, drop}
use Rattle.std.proofs.Math.Seq.{take-append_seam, drop-append_seam}
use Rattle.verdict.specs.Verdict.{accepted}
use Rattle.verdict.specs.Lists.{Each, none, more}
use Rattle.verdict.specs.Tells.{tells_self, and_tells}
use Rattle.formula.specs.Rule
use Rattle.formula.specs.Table.{Table}
use Rattle.formula.specs.Nodes.{Node, Proof}
use Rattle.formula.specs.Claim.{Form, clm1, clm2, form_number, Claim, Derivation}
use Rattle.formula.specs.Records.{NodeRecord, record_of, node_records, all_codes}
use Rattle.formula.specs.Fields.{has_principal_lem, has_first_lem, has_second_lem, has_back_lem}
use Rattle.encoding.specs.Encode.{Bytes, encode_two, encode_all}
use Rattle.encoding.specs.File.{Reading, good}
use Rattle.encoding.specs.FileLaws.{good_same, refused_not_good}
use Rattle.proof_files.specs.ProofFile.{proof_opening, encode_node, encode_roots, FitNode, FitRoots, ProofFile}
use Rattle.proof_files.specs.ReadProof.{read_proof}
use Rattle.proof_files.proofs.ProofExact.{good_proof}
use Rattle.tree.specs.Owners.{tree_judged}
use Rattle.reader.specs.Files.{Files, firstly, and_then, read_formed_lem, beside_claim, files}
use Rattle.writing.specs.RecordBytes.{node_bytes, nodes_bytes, root_bytes, proof_head}
use Rattle.writing.specs.Goals.{roots_fit, given_roots, roots_given}
use Rattle.writing.specs.Writing.{ClaimRecords, ProofRecords, proof_file, short_claim, short_proof, if_form, if_room, claim_reading, proof_reading, both_reading, writing_proof}
use Rattle.writing.specs.Ends.{End, next, stop, read_by}
use Rattle.writing.specs.FieldEnds.{may_hold_lem}
use Rattle.writing.specs.NodeEnds.{node_fits, node_encoded}
use Rattle.writing.specs.ProofEnds.{enough, proof_end, longest_proof}
use Rattle.writing.proofs.ProofEnds.{proof_ends, proof_passed}
use Rattle.writing.specs.ClaimTrips.{claim_of, and_good, first_good, fit_good, ClaimWritable, claim_read, ClaimGiven, fit_held, clipped_same, form_named, room_good, long_good}
use Rattle.writing.proofs.ClaimTrips.{claim_writable, claim_bytes_again}
use Rattle.writing.specs.ProofTrips.{LongProof, ProofGiven, ProofLaid, ProofWritable, derivation_of, long_proof, near, nodes_long, or-false, over_records, proof_lays, proof_read, short_not}

module _ (k : Claim) (d : ProofRecords) (long : LongProof d) where
  abbrev vs : List NodeRecord
  vs = take d.count d.nodes

  abbrev end : End
  end = proof_end k.form (length k.goals) k.entries d.count d.roots vs d.codes

  read_writable : roots_fit k.form (length k.goals) d.roots ≡ true → (x : Derivation) → read_proof k (proof_file k.form d) ≡ good x → ProofWritable k d
  read_writable fit x h = go end refl
    where
      by_end : {e : End} → end ≡ e → read_proof k (proof_file k.form d) ≡ read_by (derivation_of k.form d) e
      by_end h = proof_ends k d.count d.roots vs d.codes (nodes_long d long) long.codes fit ∙ ap (read_by (derivation_of k.form d)) h

      go : (e : End) → end ≡ e → ProofWritable k d
      go (stop n q) e = absurd (refused_not_good (sym (by_end e) ∙ h))
      go (next o) e =
          let p = proof_passed k.form (length k.goals) k.entries d.count d.roots vs d.codes (nodes_long d long) long.codes o e in
          let many = nodes_long d long p.nodes.1 in
          let (records, same, codes) = over_records k.entries vs d.codes (6 + 2 * length d.roots) o (omega (arith, p.nodes.1, many, long.codes)) p.walked in
          record {
            fit = fit;
            back = by_end e;
            given = record { count = sym (same ∙ many); nodes = sym records; roots = roots_given k.form (length k.goals) d.roots fit; codes = codes };
            near = omega (arith, p.end, p.near);
          }

  pub proof_writable : (x : Derivation) → proof_reading k.form d k ≡ good x → ProofWritable k d
  unfolding proof_reading
  proof_writable x h =
      let head = read_proof k (proof_head k.form d.count) in
      let (fit, reads) = fit_good (roots_fit k.form (length k.goals) d.roots) (read_proof k (proof_file k.form d)) 31 34 6 head h in
      read_writable fit x reads

-- the records of a node make its bytes
module _ (t : Table) (v : Node) (f : FitNode t v) where
  fit_node : node_fits (record_of v) ≡ true
  fit_node =
      let r = v.rule in
      (and_tells (tells_self (leb r Rule.BACK)) (and_tells (tells_self (may_hold_lem (has_principal_lem r) v.principal)) (and_tells (tells_self (may_hold_lem (has_first_lem r) v.first))
      (and_tells (tells_self (may_hold_lem (has_second_lem r) v.second)) (tells_self (may_hold_lem (has_back_lem r) v.back)))))
      ).holds (
        le-leb r Rule.BACK f.known,
        (
          fit_held (has_principal_lem r) v.principal f.fields.principal_fits,
          (
            fit_held (has_first_lem r) v.first f.fields.first_fits,
            (fit_held (has_second_lem r) v.second f.fields.second_fits, fit_held (has_back_lem r) v.back f.fields.back_fits),
          ),
        ),
      )

  node_again : node_bytes (record_of v) v.codes ≡ encode_node v
  node_again = node_encoded (record_of v) v.codes fit_node refl

module _ (t : Table) where
  nodes_again : {p : Proof} → Each (FitNode t) p → (rest : List ℕ) → nodes_bytes (node_records p) (all_codes p ++ rest) ≡ encode_all encode_node p
  unfolding nodes_bytes node_records all_codes encode_all
  nodes_again none rest = refl
  nodes_again (more {x = v} {l = p} f fs) rest =
      rw (append_assoc v.codes (all_codes p) rest, take-append_seam v.codes (all_codes p ++ rest), drop-append_seam v.codes (all_codes p ++ rest), nodes_again fs rest)
      (ap (λ (l : List ℕ). l ++ encode_all encode_node p) (node_again t v f))

-- the roots of a file are given as the form has them
roots_again : (f : Form) (k n : ℕ) (rs : List ℕ) → FitRoots f k n rs → (root_bytes f (given_roots f rs) ≡ encode_roots f rs) × (roots_fit f k (given_roots f rs) ≡ true)
roots_again clm1 k n rs h = (refl, refl)
roots_again clm2 k n rs h = (refl, eq-eqb (length rs) k h.as_many)

module _ (k : Claim) (d : ProofRecords) (p : Derivation) (given : ProofGiven k.form d p) {bytes : List ℕ} (f : ProofFile k bytes p) where
  -- the records of a proof that passes make its bytes, and fit
  pub proof_again : (proof_file k.form d ≡ bytes) × (roots_fit k.form (length k.goals) d.roots ≡ true)
  proof_again =
      let few : length p.nodes ≤ 65535 = omega (arith, f.fits.nodes.count) in
      let (roots, fit) = roots_again k.form (length k.goals) (length p.nodes) p.roots f.fits.roots in (
        rw (given.nodes, given.count, given.roots, clipped_same (length p.nodes) few, roots)
            (ap (λ (cs : List ℕ). proof_opening k.form ++ (encode_two (length p.nodes) ++ (encode_roots k.form p.roots ++ nodes_bytes (node_records p.nodes) cs))) (sym given.codes)
            ∙ rw (nodes_again k.entries f.fits.nodes.each (drop (length (all_codes p.nodes)) d.codes)) (sym f.encoded)),
        rw given.roots fit,
      )

-- files that pass were read one after the other
files_parts : (claim proof : List ℕ) (f : Files Derivation) → files claim proof ≡ good f → (read_formed_lem claim ≡ good f.claim) × (read_proof f.claim proof ≡ good f.beside)
unfolding files
files_parts claim proof f h =
    let (k, read, beside) = and_good (read_formed_lem claim) (beside_claim (λ c. read_proof c proof)) h in
    let (x, was, made) = and_good (read_proof k proof) (λ x. good (record { claim = k; beside = x })) beside in
    rw (← (good_same made)) (read, was)

module _ (c : ClaimRecords) (d : ProofRecords) where
  -- records that pass are read back
  pub records_back : (f : Form) → short_claim c ≡ false → short_proof d ≡ false → (x : Files Derivation) → both_reading f c d ≡ good x
      → ClaimWritable f c × ProofWritable (claim_of f c) d × (x.beside ≡ derivation_of f d)
  unfolding both_reading
  records_back f long_claim long x h =
      let (k, claim, beside) = and_good (claim_reading f c) (beside_claim (proof_reading f d)) h in
      let (p, proof, made) = and_good (proof_reading f d k) (λ p. good (record { claim = k; beside = p })) beside in
      let writable = claim_writable f c long_claim k claim in
      let over : proof_reading f d (claim_of f c) ≡ good p = ap (proof_reading f d) {x = claim_of f c} {y = k} (good_same (sym (claim_read f c writable) ∙ claim)) ∙ proof in
      let passes = proof_writable (claim_of f c) d (long_proof d long) p over in
      (writable, passes, ap (λ (x : Files Derivation). x.beside) (sym (good_same made)) ∙ good_same (sym over ∙ proof_read (claim_of f c) d passes))

  tree_same : (f : Form) (x : Files Derivation) → x.beside ≡ derivation_of f d → tree_judged x.beside.roots x.beside.nodes ≡ accepted
      → tree_judged (derivation_of f d).roots (derivation_of f d).nodes ≡ accepted
  tree_same f x same tree = ap (λ (p : Derivation). tree_judged p.roots p.nodes) {x = derivation_of f d} {y = x.beside} (sym same) ∙ tree

  module _ (room : ℕ) where
    abbrev judged_tree : Form → Files Derivation → Reading (List ℕ)
    judged_tree f x = firstly (tree_judged x.beside.roots x.beside.nodes) (if_room room (proof_file f d))

    abbrev rest : Form → Reading (List ℕ)
    rest f = and_then (both_reading f c d) (judged_tree f)

    module _ (f : Form) (named : c.form ≡ form_number f) where
      pub proof_laid : (file : List ℕ) → writing_proof c d room ≡ good file → ProofLaid f c d room file
      unfolding writing_proof
      proof_laid file h =
          let (enough, formed) = long_good (short_claim c || short_proof d) (if_form c.form rest) h in
          let (long_claim, long) = or-false (short_claim c) (short_proof d) enough in
          let (x, both, then) = and_good (both_reading f c d) (judged_tree f) (sym (form_named f rest named) ∙ formed) in
          let (claim, writable, same) = records_back f long_claim long x both in
          let (tree, fits) = first_good (tree_judged x.beside.roots x.beside.nodes) (if_room room (proof_file f d)) then in
          let (less, is) = room_good room (proof_file f d) fits in
          record {
            long_claim = long_claim;
            long = long;
            is = sym is;
            claim = claim;
            writable = writable;
            tree = tree_same f x same tree;
            fits = rw (← is) less;
            near = rw (← is) (near c d room f named writable);
          }

      module _ (long_claim : short_claim c ≡ false) (long : short_proof d ≡ false) where
        -- long enough a slice never earns 70
        pub proof_roomy : (x : Files Derivation) → both_reading f c d ≡ good x → tree_judged x.beside.roots x.beside.nodes ≡ accepted
            → longest_proof f (length c.counts) ≤ room → writing_proof c d room ≡ good (proof_file f d)
        proof_roomy x h tree far =
            let (claim, writable, same) = records_back f long_claim long x h in
            proof_lays c d room f named long_claim long claim writable (tree_same f x same tree) (omega (arith, near c d room f named writable))

-- files that pass, and whose records are given, are the files of the records
module _ (c : ClaimRecords) (d : ProofRecords) (x : Files Derivation) (claim_given : ClaimGiven c x.claim) (given : ProofGiven x.claim.form d x.beside)
    {claim proof : List ℕ} (bc : Bytes claim) (bp : Bytes proof) (reads : files claim proof ≡ good x) where
  files_again : (both_reading x.claim.form c d ≡ good x) × (proof_file x.claim.form d ≡ proof)
  unfolding both_reading
  files_again =
      let (read, was) = files_parts claim proof x reads in
      let (same_claim, fit_claim) = claim_bytes_again c x.claim claim_given bc read in
      let (same, fit) = proof_again x.claim d x.beside given (good_proof bp was) in
      (rw (fit_claim, same_claim, read, fit, same, was) refl, same)

-- and are written so
module _ (c : ClaimRecords) (d : ProofRecords) (room : ℕ) where
  pub proof_writes_again : (x : Files Derivation) {claim proof : List ℕ} → Bytes claim → Bytes proof → files claim proof ≡ good x
      → tree_judged x.beside.roots x.beside.nodes ≡ accepted → ClaimGiven c x.claim → ProofGiven x.claim.form d x.beside
      → 256 ≤ length c.entries → LongProof d → length proof ≤ room → writing_proof c d room ≡ good proof
  proof_writes_again x {claim} {proof} bc bp reads tree claim_given given long_claim long fits =
      let f = x.claim.form in
      let (both, same) = files_again c d x claim_given given bc bp reads in
      let enough : short_claim c ≡ false = le-ltb (length c.entries) 256 long_claim in
      let (writable_claim, writable, found) = records_back c d f enough (short_not d long) x both in
      proof_lays c d room f claim_given.form enough (short_not d long) writable_claim writable (tree_same c d f x found tree) (omega (arith, ap length same)) ∙ ap good same
