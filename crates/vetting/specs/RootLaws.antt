-- roots that were walked over: each is a node, and in the array that they are copied into those of the form stand in front
use Rattle.std.specs.Prelude.{◌≡◌, List, ◌++◌, true, false, ℕ, ◌+◌, ◌-◌, ◌<◌, ◌≤◌, length, get_or, take, drop, replicate}
use Rattle.std.proofs.Math.Path.{refl}
use Rattle.std.proofs.Common.{ap, ◌∙◌, arith, eqb-true, get_or-drop, get_or-append-add}
use Rattle.std.proofs.Math.Decide.{dec_lt}
use Rattle.std.proofs.lemmas.List.{length-replicate, get_or-replicate}
use Rattle.std.proofs.Math.ListN.{get_or-append}
use Rattle.std.proofs.Math.Seq.{paste, take-length}
use Rattle.std.proofs.lemmas.List.Edits.{length-paste, take-paste}
use Rattle.verdict.specs.Tells.{ltb_tells}
use Rattle.formula.specs.Table.{Table}
use Rattle.formula.specs.Claim.{Form, clm1, clm2, fewest}
use Rattle.formula.specs.Records.{NodeRecord}
use Rattle.encoding.specs.Encode.{Counts}
use Rattle.encoding.specs.Parse.{in_range}
use Rattle.encoding.specs.ListLaws.{range_tells}
use Rattle.claim_files.specs.ClaimFile.{GoalCount}
use Rattle.proof_files.specs.ReadProof.{is_node}
use Rattle.tree.specs.Stamps.{RootsPlaced}
use Rattle.writing.specs.Goals.{roots_fit, roots_of, none_given}
use Rattle.writing.specs.Ends.{next, stop, go_on, walk, passed, went}
use Rattle.writing.specs.FieldEnds.{count_end, rising_end}
use Rattle.writing.specs.ProofEnds.{nodes_end, roots_end, proof_end}
use Rattle.vetting.specs.WalkLaws.{rising_passed}

-- the walk over as many roots as the form has, and over none
module _ (f : Form) (k n : ℕ) (os : List ℕ) (at : ℕ) where
  pub roots_unfit : roots_fit f k os ≡ false → roots_end f k n os at ≡ stop 34 at
  roots_unfit h = rw h refl

  pub roots_fit_lem : roots_fit f k os ≡ true → roots_end f k n os at ≡ rising_end (is_node n) 34 os at
  roots_fit_lem h = rw h refl

  pub roots_none : roots_fit f k os ≡ true → length os ≡ 0 → roots_end f k n os at ≡ next at
  unfolding walk
  roots_none h z = roots_fit_lem h ∙ rw (none_given os z) refl

-- at most 16 roots; that of each of k goals is a node, and where none is given it is node 0
pub record RootsFound (os : List ℕ) (k n : ℕ) : Type 0 where
  pub few : length os ≤ 16
  pub inside : (i : ℕ) → i < k → get_or os i 0 < n

few_roots : (f : Form) (k : ℕ) (os : List ℕ) → k ≤ 16 → roots_fit f k os ≡ true → length os ≤ 16
few_roots clm1 k os few fit = omega (arith, eqb-true (length os) 0 fit)
few_roots clm2 k os few fit = omega (arith, eqb-true (length os) k fit)

-- a proof of the form for one goal has a node
goals_inside : (f : Form) (k n : ℕ) (os : List ℕ) → fewest f ≤ n → roots_fit f k os ≡ true → ((i : ℕ) → i < length os → get_or os i 0 < n) → (i : ℕ) → i < k → get_or os i 0 < n
goals_inside clm1 k n os some fit given i h = rw (none_given os (eqb-true (length os) 0 fit)) some
goals_inside clm2 k n os some fit given i h = given i (omega (arith, eqb-true (length os) k fit))

-- what a walk over a proof to its end tells of its nodes and roots
pub record ProofFound (f : Form) (k n : ℕ) (os : List ℕ) : Type 0 where
  pub nodes : Counts (fewest f) 1024 n
  pub fit : roots_fit f k os ≡ true
  pub roots : RootsFound os k n

pub proof_found : (f : Form) (k : ℕ) (t : Table) (n : ℕ) (os : List ℕ) (vs : List NodeRecord) (cs : List ℕ) {o : ℕ} → k ≤ 16 → proof_end f k t n os vs cs ≡ next o → ProofFound f k n os
unfolding walk nodes_end
proof_found f k t n os vs cs few h =
    let count = went (count_end (fewest f) 1024 32 n 4) (λ o. go_on (roots_end f k n os o) (λ u. nodes_end t vs cs u)) h in
    let (some, _) = passed (in_range (fewest f) 1024 n) (next 6) 32 4 count.first in
    let at = count.place in
    let rooted = went (roots_end f k n os at) (λ u. nodes_end t vs cs u) count.then in
    let (fit, rise) = passed (roots_fit f k os) (rising_end (is_node n) 34 os at) 34 at rooted.first in
    let counts = (range_tells (fewest f) 1024 n).says some in
    record {
      nodes = counts;
      fit = fit;
      roots = record {
        few = few_roots f k os few fit;
        inside = goals_inside f k n os counts.0 fit (λ i b. (ltb_tells (get_or os i 0) n).says (rising_passed (is_node n) 34 os 0 at rise i b));
      };
    }

-- the roots in an array of zeros
abbrev pub placed : List ℕ → List ℕ
placed os = paste (replicate {A = ℕ} 16 0) 0 os (length os)

module _ (os : List ℕ) (k n : ℕ) (found : RootsFound os k n) (most : k ≤ 16) where
  abbrev rest : List ℕ
  rest = drop (0 + length os) (replicate {A = ℕ} 16 0)

  placed_inside : (i : ℕ) → i < k → get_or (placed os) i 0 < n
  placed_inside i h = rw (take-length os) (go (dec_lt i (length os)))
    where
      go : Dec (i < length os) → get_or (os ++ rest) i 0 < n
      go (yes b) = rw (get_or-append os rest 0 i b) (found.inside i h)
      go (no b) =
          let d = i - length os in
          let j : i ≡ length os + d = omega arith in
          let e : 0 + length os + d < 16 = omega arith in
          rw (j, get_or-append-add os rest d 0, get_or-drop (0 + length os) (replicate {A = ℕ} 16 0) d 0, get_or-replicate {A = ℕ} 16 (0 + length os + d) 0 0 e) (omega (arith, found.inside i h))

  pub roots_placed : RootsPlaced (placed os) k n
  roots_placed = record {
    few = most;
    long = omega (arith, length-paste (replicate {A = ℕ} 16 0) 0 os (length os) (omega (arith, found.few, length-replicate {A = ℕ} 16 0)) (omega arith), length-replicate {A = ℕ} 16 0);
    inside = placed_inside;
  }

-- those in front are the form's: where none are given, node 0
pub roots_taken : (f : Form) (k : ℕ) (os : List ℕ) → GoalCount f k → roots_fit f k os ≡ true → take k (placed os) ≡ roots_of f os
roots_taken clm1 k os one fit = rw (one, none_given os (eqb-true (length os) 0 fit)) refl
roots_taken clm2 k os some fit =
    let e : k ≡ 0 + length os = omega (arith, eqb-true (length os) k fit) in
    ap (λ (j : ℕ). take j (placed os)) e ∙ take-paste (replicate {A = ℕ} 16 0) 0 os (length os) (omega arith) (omega arith) ∙ take-length os
