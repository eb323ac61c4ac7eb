-- the records of a proof: what is given, what may be written, and what is laid down
use Rattle.std.specs.Prelude.{◌≡◌, Bool, true, false, ◌||◌, ltb}
use Rattle.std.proofs.Math.Path.{refl, sym, ap}
use Rattle.std.proofs.Common.{◌∙◌, true≢false, arith, ltb-false, le-ltb, length-append, take-append-drop, length-take-le, drop-drop}
use mathlib.Core.List.{List, [], ◌∷◌, ◌++◌, append_assoc}
use Prim.Native.Nat.{ℕ, suc, ◌+◌, ◌*◌, ◌≤◌}
use Rattle.std.proofs.Math.ListN.{length, take, drop, length-drop}
use Rattle.verdict.specs.Verdict.{accepted}
use Rattle.verdict.specs.Lists.{written}
use Rattle.formula.specs.Table.{Table}
use Rattle.formula.specs.Claim.{Form, form_number, Claim, Derivation}
use Rattle.formula.specs.Records.{NodeRecord, node_records, all_codes}
use Rattle.encoding.specs.File.{Reading, good}
use Rattle.proof_files.specs.ReadProof.{read_proof}
use Rattle.tree.specs.Owners.{tree_judged}
use Rattle.reader.specs.Files.{Files, firstly, and_then, read_formed_lem, files}
use Rattle.writing.specs.Goals.{roots_fit, roots_of, given_roots, split_count}
use Rattle.writing.specs.Writing.{ClaimRecords, ProofRecords, proof_file, short_claim, short_proof, if_room, proof_reading, both_reading, writing_proof}
use Rattle.writing.specs.Ends.{End, next, went}
use Rattle.writing.specs.NodeEnds.{node_end, node_past}
use Rattle.writing.specs.ProofEnds.{nodes_over, nodes_end, enough, proof_end, longest_proof}
use Rattle.writing.specs.ClaimTrips.{claim_of, ClaimWritable, claim_read, form_named, good_room}

-- the proof that records stand for, in a form
abbrev pub derivation_of : Form → ProofRecords → Derivation
derivation_of f d = record { roots = roots_of f d.roots; nodes = nodes_over (take d.count d.nodes) d.codes }

-- the records hold a proof: what stands in the slices once it was decoded there
pub record ProofGiven (f : Form) (d : ProofRecords) (p : Derivation) : Type 0 where
  pub count : d.count ≡ length p.nodes
  pub nodes : take d.count d.nodes ≡ node_records p.nodes
  pub roots : d.roots ≡ given_roots f p.roots
  pub codes : written (all_codes p.nodes) d.codes ≡ d.codes

pub or-false : (x y : Bool) → x || y ≡ false → (x ≡ false) × (y ≡ false)
or-false true y h = absurd (true≢false h)
or-false false y h = (refl, h)

-- slices that are long enough
pub record LongProof (d : ProofRecords) : Type 0 where
  pub nodes : 1024 ≤ length d.nodes
  pub codes : 24576 ≤ length d.codes

pub long_proof : (d : ProofRecords) → short_proof d ≡ false → LongProof d
long_proof d h =
    let (n, c) = or-false (ltb (length d.nodes) 1024) (ltb (length d.codes) 24576) h in
    record { nodes = ltb-false (length d.nodes) 1024 n; codes = ltb-false (length d.codes) 24576 c }

pub short_not : (d : ProofRecords) → LongProof d → short_proof d ≡ false
short_not d long = rw (le-ltb (length d.nodes) 1024 long.nodes, le-ltb (length d.codes) 24576 long.codes) refl

pub nodes_long : (d : ProofRecords) → LongProof d → d.count ≤ 1024 → length (take d.count d.nodes) ≡ d.count
nodes_long d long few = length-take-le d.count d.nodes (omega (arith, long.nodes))

-- two lists one after the other stand where they were
stands_in_front : (here later cs : List ℕ) (k : ℕ) → length here ≡ k → written later (drop k cs) ≡ drop k cs → here ++ drop k cs ≡ cs → written (here ++ later) cs ≡ cs
stands_in_front here later cs k same behind whole =
    let i : length (here ++ later) ≡ k + length later = length-append here later ∙ ap (λ (n : ℕ). n + length later) same in
    append_assoc here later (drop (length (here ++ later)) cs)
    ∙ ap (λ (n : ℕ). here ++ (later ++ drop n cs)) i
    ∙ ap (λ (l : List ℕ). here ++ (later ++ l)) (sym (drop-drop (length later) k cs))
    ∙ ap (λ (l : List ℕ). here ++ l) behind
    ∙ whole

-- nodes that pass are those of the records, and their codes stand in front of the slice
module _ (t : Table) where
  pub over_records : (vs : List NodeRecord) (cs : List ℕ) (at o : ℕ) → 24 * length vs ≤ length cs → nodes_end t vs cs at ≡ next o
      → (node_records (nodes_over vs cs) ≡ vs) × (length (nodes_over vs cs) ≡ length vs) × (written (all_codes (nodes_over vs cs)) cs ≡ cs)
  unfolding nodes_end nodes_over node_records all_codes
  over_records [] cs at o long h = (refl, refl, refl)
  over_records (v ∷ vs) cs at o long h =
      let here = take v.count cs in
      let left = drop v.count cs in
      let w = went (node_end t v here at) (λ o. nodes_end t vs left o) h in
      let (end, few, near) = node_past t v here (enough t v vs cs long) at w.place w.first in
      let (records, many, codes) = over_records vs left w.place o (omega (arith, length-drop v.count cs)) w.then in
      let same : length here ≡ v.count = enough t v vs cs long few in
      (rw (same, records) refl, ap suc many, stands_in_front here (all_codes (nodes_over vs left)) cs v.count same codes (take-append-drop v.count cs))

-- what holds of records whose file passes 30 to 34 beside a claim
pub record ProofWritable (k : Claim) (d : ProofRecords) : Type 0 where
  pub fit : roots_fit k.form (length k.goals) d.roots ≡ true
  pub back : read_proof k (proof_file k.form d) ≡ good (derivation_of k.form d)
  pub given : ProofGiven k.form d (derivation_of k.form d)
  pub near : length (proof_file k.form d) ≤ longest_proof k.form (length k.goals)

module _ (k : Claim) (d : ProofRecords) (long : LongProof d) where
  abbrev vs : List NodeRecord
  vs = take d.count d.nodes

  abbrev end : End
  end = proof_end k.form (length k.goals) k.entries d.count d.roots vs d.codes

pub proof_read : (k : Claim) (d : ProofRecords) → ProofWritable k d → proof_reading k.form d k ≡ good (derivation_of k.form d)
unfolding proof_reading
proof_read k d w = rw w.fit w.back

pub both_read : (claim proof : List ℕ) {k : Claim} {x : Derivation} → read_formed_lem claim ≡ good k → read_proof k proof ≡ good x → files claim proof ≡ good (record { claim = k; beside = x })
unfolding files
both_read claim proof read was = rw (read, was) refl

-- a file that is written in a form, over the claim that its records make
pub record ProofLaid (f : Form) (c : ClaimRecords) (d : ProofRecords) (room : ℕ) (file : List ℕ) : Type 0 where
  pub long_claim : short_claim c ≡ false
  pub long : short_proof d ≡ false
  pub is : file ≡ proof_file f d
  pub claim : ClaimWritable f c
  pub writable : ProofWritable (claim_of f c) d
  pub tree : tree_judged (derivation_of f d).roots (derivation_of f d).nodes ≡ accepted
  pub fits : length file ≤ room
  pub near : length file ≤ longest_proof f (length c.counts)

module _ (c : ClaimRecords) (d : ProofRecords) where
  pub records_read : (f : Form) → ClaimWritable f c → ProofWritable (claim_of f c) d → both_reading f c d ≡ good (record { claim = claim_of f c; beside = derivation_of f d })
  unfolding both_reading
  records_read f claim proof = rw (claim_read f c claim, proof_read (claim_of f c) d proof) refl

  module _ (room : ℕ) where
    abbrev judged_tree : Form → Files Derivation → Reading (List ℕ)
    judged_tree f x = firstly (tree_judged x.beside.roots x.beside.nodes) (if_room room (proof_file f d))

    abbrev rest : Form → Reading (List ℕ)
    rest f = and_then (both_reading f c d) (judged_tree f)

    module _ (f : Form) (named : c.form ≡ form_number f) where
      pub near : ProofWritable (claim_of f c) d → length (proof_file f d) ≤ longest_proof f (length c.counts)
      near w = omega (arith, w.near, ap (longest_proof f) (split_count c.counts c.members))

      module _ (long_claim : short_claim c ≡ false) (long : short_proof d ≡ false) where
        pub proof_lays : ClaimWritable f c → ProofWritable (claim_of f c) d → tree_judged (derivation_of f d).roots (derivation_of f d).nodes ≡ accepted
            → length (proof_file f d) ≤ room → writing_proof c d room ≡ good (proof_file f d)
        unfolding writing_proof
        proof_lays claim proof tree fits = rw (long_claim, long, form_named f rest named, records_read f claim proof, tree) (good_room room (proof_file f d) fits)
