-- the nodes of a proof in lent records and codes, and the verdict on what stands there
use Rattle.std.specs.Prelude.{◌≡◌, List, ℕ, ◌*◌, ◌≤◌, length}
use Rattle.verdict.specs.Verdict.{Verdict}
use Rattle.verdict.specs.Lists.{written}
use Rattle.formula.specs.Claim.{Form, Claim, Derivation}
use Rattle.formula.specs.Nodes.{Proof}
use Rattle.formula.specs.Records.{node_records, all_codes}
use Rattle.calculus.specs.Judge.{judge}
use Rattle.records.specs.Records.{shown_nodes}
use Rattle.records.specs.declared.Node.{Node}

-- room for m nodes: in columns of n rows, and in what is lent
pub record RoomFor (n m : ℕ) (vs : List Node) (cs : List ℕ) : Type 0 where
  pub rows : m ≤ n
  pub nodes : m ≤ length vs
  pub codes : 24 * m ≤ length cs

-- "codes follow each other in file order, from the start of their slice without gaps"; the slices are unchanged beyond what is stored
pub record ProofStored (p : Proof) (vs : List Node) (cs : List ℕ) (vs' : List Node) (cs' : List ℕ) : Type 0 where
  pub nodes : shown_nodes vs' ≡ written (node_records p) (shown_nodes vs)
  pub codes : cs' ≡ written (all_codes p) cs

-- the verdict on a claim, in whatever form it was written, and a proof, whose nodes then stand in what was lent
pub record JudgedStored (c : Form → Claim) (d : Derivation) (vs : List Node) (cs : List ℕ) (v : Verdict) (vs' : List Node) (cs' : List ℕ) : Type 0 where
  pub verdict : (f : Form) → v ≡ judge (c f) d
  pub stored : ProofStored d.nodes vs cs vs' cs'
