-- the file that a proof's records make is read, over a claim, to where the walk over them ends
use Rattle.std.specs.Prelude.{◌≡◌, Bool, ℕ, zero, suc, ◌+◌, ◌*◌, ◌≤◌}
use Rattle.std.proofs.Math.Path.{refl, ap}
use Rattle.std.proofs.Common.{sym, ◌∙◌, eqb-true}
use mathlib.Core.List.{List, [], ◌∷◌, ◌++◌, append_assoc, append-nil}
use Rattle.std.proofs.Math.Bool.{true, false}
use native.Mathlib.Omega.{arith}
use Rattle.std.proofs.Math.ListN.{length, take, drop, length-append, length-drop}
use Rattle.verdict.specs.Tells.{Tells}
use Rattle.formula.specs.Table.{Table}
use Rattle.formula.specs.Nodes.{Node, Proof}
use Rattle.formula.specs.Claim.{Form, clm1, clm2, fewest, Claim, Derivation}
use Rattle.formula.specs.Records.{NodeRecord}
use Rattle.encoding.specs.Encode.{encode_two, encode_all, Counts}
use Rattle.encoding.specs.ListLaws.{range_tells}
use Rattle.encoding.specs.File.{Reading, ending}
use Rattle.encoding.specs.Parse.{Got, got, pick, bind, seq, via, in_range, times}
use Rattle.proof_files.specs.ProofFile.{proof_opening}
use Rattle.proof_files.specs.ReadProof.{early, node, is_node, roots, nodes, derivation_of, body, read_proof}
use Rattle.writing.specs.RecordBytes.{clipped, node_bytes, nodes_bytes, root_bytes, proof_bytes, proof_head}
use Rattle.writing.specs.Goals.{root_count, roots_fit, roots_of, none_given}
use Rattle.writing.specs.Ends.{End, next, stop, go_on, cut_end, walk, got_by, read_by, after_opening, passed, went, next_same}
use Rattle.writing.specs.FieldEnds.{count_end, count_meets, rising_end, rising_met, rising_past, numbers_long}
use Rattle.writing.specs.NodeEnds.{node_of_lem, node_fits, node_end, node_read, node_past}
use Rattle.writing.specs.ProofEnds.{ProofPassed, derivation, enough, nodes_end, nodes_over, nodes_past, proof_end, roots_end}

-- all nodes, where the slice of codes has enough for them
module _ (t : Table) where
  then_nodes : List NodeRecord → Got Node → Got Proof
  unfolding times node
  then_nodes vs g = bind g (λ x r o. bind (times (λ _. node t) (λ _ _. 0) (length vs) 0 r o) (λ l u z. got (x ∷ l) u z))

  nodes_read : (vs : List NodeRecord) (cs rest : List ℕ) (at : ℕ) → 24 * length vs ≤ length cs
      → times (λ _. node t) (λ _ _. 0) (length vs) 0 (nodes_bytes vs cs ++ rest) at ≡ got_by (nodes_over vs cs) rest (nodes_end t vs cs at)
  unfolding times nodes_end nodes_bytes nodes_over then_nodes
  nodes_read [] cs rest at long = refl
  nodes_read (v ∷ vs) cs rest at long =
      let here = take v.count cs in
      let left = drop v.count cs in
      let few : (o : ℕ) → node_end t v here at ≡ next o → v.count ≤ 24 = λ o h. (node_past t v here (enough t v vs cs long) at o h).1 in
      ap (λ (s : List ℕ). then_nodes vs (node t s at)) (append_assoc (node_bytes v here) (nodes_bytes vs left) rest)
      ∙ ap (then_nodes vs) (node_read t v here (enough t v vs cs long) (nodes_bytes vs left ++ rest) at (node_fits v) refl)
      ∙ go few (λ o k. nodes_read vs left rest o (omega (arith, length-drop v.count cs))) (node_end t v here at) refl
    where
      onto : (e : End) → bind (got_by (nodes_over vs (drop v.count cs)) rest e) (λ l u z. got (node_of_lem v (take v.count cs) ∷ l) u z)
          ≡ got_by (node_of_lem v (take v.count cs) ∷ nodes_over vs (drop v.count cs)) rest e
      onto (next o) = refl
      onto (stop n q) = refl

      go : ((o : ℕ) → node_end t v (take v.count cs) at ≡ next o → v.count ≤ 24)
          → ((o : ℕ) → v.count ≤ 24 → times (λ _. node t) (λ _ _. 0) (length vs) 0 (nodes_bytes vs (drop v.count cs) ++ rest) o
          ≡ got_by (nodes_over vs (drop v.count cs)) rest (nodes_end t vs (drop v.count cs) o))
          → (e : End) → node_end t v (take v.count cs) at ≡ e → then_nodes vs (got_by (node_of_lem v (take v.count cs)) (nodes_bytes vs (drop v.count cs) ++ rest) e)
          ≡ got_by (node_of_lem v (take v.count cs) ∷ nodes_over vs (drop v.count cs)) rest (go_on e (λ o. nodes_end t vs (drop v.count cs) o))
      go few more (stop n q) h = refl
      go few more (next o) h = rw (more o (few o h)) (onto (nodes_end t vs (drop v.count cs) o))

roots_read : (f : Form) (k n : ℕ) (os rest : List ℕ) (at : ℕ) → roots_fit f k os ≡ true
    → roots f k n (root_bytes f os ++ rest) at ≡ got_by (roots_of f os) rest (rising_end (is_node n) 34 os at)
unfolding roots walk
roots_read clm1 k n os rest at fit = rw (none_given os (eqb-true (length os) 0 fit)) refl
roots_read clm2 k n os rest at fit = rw (← (eqb-true (length os) k fit)) (rising_met early (is_node n) 34 os rest at)

opening_long : (f : Form) → length (proof_opening f) ≡ 4
opening_long clm1 = refl
opening_long clm2 = refl

-- two bytes for each root that is given
roots_long : (f : Form) (k : ℕ) (os : List ℕ) → roots_fit f k os ≡ true → (length (root_bytes f os) ≡ 2 * length os) × (length os ≡ root_count f k)
unfolding encode_all
roots_long clm1 k os fit = let z = eqb-true (length os) 0 fit in (omega arith, z)
roots_long clm2 k os fit = (numbers_long os, eqb-true (length os) k fit)

-- a file that stops after the node count ends early, or is whole, where there is neither root nor node
cut : (t : Table) (f : Form) (k n : ℕ) → seq (roots f k n) (λ _. nodes t n) [] 6 ≡ got_by (roots_of f [], []) [] (go_on (cut_end early (root_count f k) 6) (λ o. cut_end early n o))
unfolding roots nodes
cut t clm1 k zero = refl
cut t clm1 k (suc n) = refl
cut t clm2 zero zero = refl
cut t clm2 zero (suc n) = refl
cut t clm2 (suc k) n = refl

opened : (c : Claim) (s : List ℕ) → read_proof c (proof_opening c.form ++ s) ≡ ending early (body c s 4)
unfolding read_proof
opened c s = after_opening (proof_opening c.form) 30 early (body c) s (opening_long c.form)

-- the proof's records are read back, or refused where the walk stops: whatever follows the node count
module _ (c : Claim) (n : ℕ) where
  abbrev f : Form
  f = c.form

  abbrev k : ℕ
  k = length c.goals

  after_count : Got ℕ → Reading Derivation
  unfolding roots nodes
  after_count g = ending early (via derivation_of (λ _ _. bind g (λ n r o. bind (seq (roots f k n) (λ _. nodes c.entries n) r o) (λ y u z. got (n, y) u z))) [] 0)

  after_parts : Got (List ℕ × Proof) → Reading Derivation
  after_parts g = ending early (via derivation_of (λ _ _. bind g (λ y u z. got (n, y) u z)) [] 0)

  after_roots : Got (List ℕ) → Reading Derivation
  unfolding nodes
  after_roots g =
      ending early (via derivation_of (λ _ _. bind (bind g (λ x r o. bind (nodes c.entries n r o) (λ y u z. got (x, y) u z))) (λ y u z. got (n, y) u z)) [] 0)

  after_nodes : List ℕ → Got Proof → Reading Derivation
  after_nodes x g = ending early (via derivation_of (λ _ _. bind (bind g (λ y u z. got (x, y) u z)) (λ y u z. got (n, y) u z)) [] 0)

  module _ (bytes : List ℕ) (x : Derivation) (rest : ℕ → End) (met : n ≤ 1024 → after_count (got n bytes 6) ≡ read_by x (rest 6)) where
    count_end_lem : (b : Bool) → Tells b (Counts (fewest f) 1024 n) → after_count (got_by n bytes (pick b (next 6) (stop 32 4))) ≡ read_by x (go_on (pick b (next 6) (stop 32 4)) rest)
    unfolding after_count
    count_end_lem false T = refl
    count_end_lem true T = met (T.says refl).1

    follows : read_proof c (proof_opening f ++ (encode_two (clipped n) ++ bytes)) ≡ read_by x (go_on (count_end (fewest f) 1024 32 n 4) rest)
    unfolding body after_count
    follows =
        opened c (encode_two (clipped n) ++ bytes)
        ∙ ap after_count (count_meets early (fewest f) 1024 32 (omega arith) n bytes 4)
        ∙ count_end_lem (in_range (fewest f) 1024 n) (range_tells (fewest f) 1024 n)

  -- a file that stops after the node count
  pub proof_cut : read_proof c (proof_head f n)
      ≡ read_by (record { roots = roots_of f []; nodes = [] }) (go_on (count_end (fewest f) 1024 32 n 4) (λ o. go_on (cut_end early (root_count f k) o) (λ u. cut_end early n u)))
  unfolding after_count after_parts
  proof_cut =
      follows [] (record { roots = roots_of f []; nodes = [] }) (λ o. go_on (cut_end early (root_count f k) o) (λ u. cut_end early n u))
      (λ few. rw (cut c.entries f k n) (go (go_on (cut_end early (root_count f k) 6) (λ u. cut_end early n u))))
    where
      go : (e : End) → after_parts (got_by (roots_of f [], []) [] e) ≡ read_by (record { roots = roots_of f []; nodes = [] }) e
      go (next o) = refl
      go (stop m q) = refl

  module _ (os : List ℕ) (vs : List NodeRecord) (cs : List ℕ) (long : n ≤ 1024 → length vs ≡ n) (codes : 24576 ≤ length cs) where
    nodes_end_lem : (e : End) → after_nodes (roots_of f os) (got_by (nodes_over vs cs) [] e) ≡ read_by (derivation c n os vs cs long codes) e
    unfolding after_nodes
    nodes_end_lem (next o) = refl
    nodes_end_lem (stop m q) = refl

    roots_end_lem : n ≤ 1024 → (e : End) → after_roots (got_by (roots_of f os) (nodes_bytes vs cs) e) ≡ read_by (derivation c n os vs cs long codes) (go_on e (λ u. nodes_end c.entries vs cs u))
    unfolding after_roots after_nodes nodes_end
    roots_end_lem few (stop m q) = refl
    roots_end_lem few (next o) =
        let same = long few in
        ap (λ (m : ℕ). after_nodes (roots_of f os) (times (λ _. node c.entries) (λ _ _. 0) m 0 (nodes_bytes vs cs) o)) (sym same)
        ∙ ap (λ (s : List ℕ). after_nodes (roots_of f os) (times (λ _. node c.entries) (λ _ _. 0) (length vs) 0 s o)) (sym (append-nil (nodes_bytes vs cs)))
        ∙ ap (after_nodes (roots_of f os)) (nodes_read c.entries vs cs [] o (omega arith))
        ∙ nodes_end_lem (nodes_end c.entries vs cs o)

    pub proof_ends : roots_fit f k os ≡ true → read_proof c (proof_bytes f n os vs cs) ≡ read_by (derivation c n os vs cs long codes) (proof_end f k c.entries n os vs cs)
    unfolding nodes_end after_count after_roots
    proof_ends fit =
        follows (root_bytes f os ++ nodes_bytes vs cs) (derivation c n os vs cs long codes) (λ o. go_on (roots_end f k n os o) (λ u. nodes_end c.entries vs cs u))
        (λ high. ap after_roots (roots_read f k n os (nodes_bytes vs cs) 6 fit) ∙ rw fit (roots_end_lem high (rising_end (is_node n) 34 os 6)))

-- what a walk to the end tells: the counts are in range, the roots fit, and it ends where the file does
module _ (f : Form) (k : ℕ) (t : Table) (n : ℕ) (os : List ℕ) (vs : List NodeRecord) (cs : List ℕ) (long : n ≤ 1024 → length vs ≡ n) (codes : 24576 ≤ length cs) where
  pub proof_passed : (o : ℕ) → proof_end f k t n os vs cs ≡ next o → ProofPassed f k t n os vs cs long codes o
  unfolding nodes_end
  proof_passed o h =
      let w = went (count_end (fewest f) 1024 32 n 4) (λ o. go_on (roots_end f k n os o) (λ u. nodes_end t vs cs u)) h in
      let (i, six) = passed (in_range (fewest f) 1024 n) (next 6) 32 4 w.first in
      let few = (range_tells (fewest f) 1024 n).says i in
      let same = long few.1 in
      let v = went (roots_end f k n os w.place) (λ u. nodes_end t vs cs u) w.then in
      let (fit, rise) = passed (roots_fit f k os) (rising_end (is_node n) 34 os w.place) 34 w.place v.first in
      let (wide, many) = roots_long f k os fit in
      let at : v.place ≡ 6 + 2 * length os = omega (arith, next_same six, rising_past early (is_node n) 34 os w.place v.place rise, numbers_long os) in
      let (end, near) = nodes_past t vs cs v.place o (omega (arith, few.1)) v.then in
      record {
        nodes = few;
        fit = fit;
        end = omega (
          arith,
          at,
          end,
          wide,
          opening_long f,
          length-append (proof_opening f) (encode_two (clipped n) ++ (root_bytes f os ++ nodes_bytes vs cs)),
          length-append (root_bytes f os) (nodes_bytes vs cs),
        );
        near = omega (arith, at, near, few.1, many);
        walked = ap (λ (at : ℕ). nodes_end t vs cs at) (sym at) ∙ v.then;
      }
