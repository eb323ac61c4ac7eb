-- where the walk over a proof's records ends, or the refusal, and the longest proof
use Rattle.std.specs.Prelude.{◌≡◌, ℕ, ◌+◌, ◌*◌, ◌≤◌}
use Rattle.std.proofs.Common.{length-take-le}
use mathlib.Core.List.{List, [], ◌∷◌}
use Rattle.std.proofs.Math.Bool.{true}
use native.Mathlib.Omega.{arith}
use Rattle.std.proofs.Math.ListN.{length, take, drop, length-append, length-drop}
use Rattle.formula.specs.Table.{Table}
use Rattle.formula.specs.Nodes.{Proof}
use Rattle.formula.specs.Claim.{Form, clm1, clm2, fewest, Claim, Derivation}
use Rattle.formula.specs.Records.{NodeRecord}
use Rattle.encoding.specs.Encode.{Counts}
use Rattle.encoding.specs.Parse.{pick}
use Rattle.claim_files.specs.ClaimFile.{GoalCount}
use Rattle.proof_files.specs.ReadProof.{is_node}
use Rattle.writing.specs.RecordBytes.{node_bytes, nodes_bytes, proof_bytes}
use Rattle.writing.specs.Goals.{root_count, roots_fit, roots_of}
use Rattle.writing.specs.Ends.{End, next, stop, go_on, walk, went, next_same}
use Rattle.writing.specs.FieldEnds.{count_end, rising_end}
use Rattle.writing.specs.NodeEnds.{node_of_lem, node_end, node_past}

-- the nodes that records stand for: each with its codes, which follow those of the nodes before it
unfoldable pub nodes_over : List NodeRecord → List ℕ → Proof
nodes_over [] cs = []
nodes_over (v ∷ vs) cs = node_of_lem v (take v.count cs) ∷ nodes_over vs (drop v.count cs)

unfoldable pub nodes_end : Table → List NodeRecord → List ℕ → ℕ → End
unfolding walk
nodes_end t [] cs at = next at
nodes_end t (v ∷ vs) cs at = go_on (node_end t v (take v.count cs) at) (λ o. nodes_end t vs (drop v.count cs) o)

-- as many roots as the form has beside so many goals, each the number of one of n nodes
abbrev pub roots_end : Form → ℕ → ℕ → List ℕ → ℕ → End
roots_end f k n os at = pick (roots_fit f k os) (rising_end (is_node n) 34 os at) (stop 34 at)

-- 32 to 34: where the proof ends, beside a claim of the form with so many goals
abbrev pub proof_end : Form → ℕ → Table → ℕ → List ℕ → List NodeRecord → List ℕ → End
proof_end f k t n os vs cs = go_on (count_end (fewest f) 1024 32 n 4) (λ o. go_on (roots_end f k n os o) (λ u. nodes_end t vs cs u))

-- no proof is longer, beside so many goals
abbrev pub longest_proof : Form → ℕ → ℕ
longest_proof f k = 58374 + 2 * root_count f k

-- nor beside as many as a claim may have
pub longest_proof_lem : (f : Form) (k : ℕ) → GoalCount f k → longest_proof f k ≤ 58406
longest_proof_lem clm1 k h = omega arith
longest_proof_lem clm2 k h = omega (arith, h.1)

-- all nodes, where the slice of codes has enough for them
module _ (t : Table) where
  pub enough : (v : NodeRecord) (vs : List NodeRecord) (cs : List ℕ) → 24 * length (v ∷ vs) ≤ length cs → v.count ≤ 24 → length (take v.count cs) ≡ v.count
  enough v vs cs long few = length-take-le v.count cs (omega arith)

  -- they end after their bytes, and none takes more than 57
  pub nodes_past : (vs : List NodeRecord) (cs : List ℕ) (at o : ℕ) → 24 * length vs ≤ length cs → nodes_end t vs cs at ≡ next o
      → (o ≡ at + length (nodes_bytes vs cs)) × (o ≤ at + 57 * length vs)
  unfolding nodes_end nodes_bytes
  nodes_past [] cs at o long h = (omega (arith, next_same h), omega (arith, next_same h))
  nodes_past (v ∷ vs) cs at o long h =
      let here = take v.count cs in
      let left = drop v.count cs in
      let w = went (node_end t v here at) (λ o. nodes_end t vs left o) h in
      let (end, few, near) = node_past t v here (enough v vs cs long) at w.place w.first in
      let (end_all, near_all) = nodes_past vs left w.place o (omega (arith, length-drop v.count cs)) w.then in
      (omega (arith, end, end_all, length-append (node_bytes v here) (nodes_bytes vs left)), omega (arith, near, near_all))

-- the proof's records are read back, or refused where the walk stops: whatever follows the node count
module _ (c : Claim) (n : ℕ) where
  abbrev f : Form
  f = c.form

  abbrev k : ℕ
  k = length c.goals

  module _ (os : List ℕ) (vs : List NodeRecord) (cs : List ℕ) (long : n ≤ 1024 → length vs ≡ n) (codes : 24576 ≤ length cs) where
    abbrev pub derivation : Derivation
    derivation = record { roots = roots_of f os; nodes = nodes_over vs cs }

-- what a walk to the end tells: the counts are in range, the roots fit, and it ends where the file does
module _ (f : Form) (k : ℕ) (t : Table) (n : ℕ) (os : List ℕ) (vs : List NodeRecord) (cs : List ℕ) (long : n ≤ 1024 → length vs ≡ n) (codes : 24576 ≤ length cs) where
  pub record ProofPassed (o : ℕ) : Type 0 where
    pub nodes : Counts (fewest f) 1024 n
    pub fit : roots_fit f k os ≡ true
    pub end : o ≡ length (proof_bytes f n os vs cs)
    pub near : o ≤ longest_proof f k
    -- from where the roots end
    pub walked : nodes_end t vs cs (6 + 2 * length os) ≡ next o
