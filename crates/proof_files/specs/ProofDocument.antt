-- refusals 30 to 34 in the documents' words: how far a proof file is well formed, and what is wrong there
use Rattle.std.specs.Prelude.{◌≡◌, List, [], ◌∷◌, ◌++◌, Bool, true, ℕ, ◌+◌, ◌<◌, ◌≤◌, length}
use Rattle.verdict.specs.Lists.{Each, Rising}
use Rattle.formula.specs.Rule
use Rattle.formula.specs.Table.{Table}
use Rattle.formula.specs.Codes.{Formula, entry_of_lem}
use Rattle.formula.specs.Nodes.{Proof}
use Rattle.formula.specs.Claim.{Form, clm2, fewest, Claim}
use Rattle.bits.specs.IfSet.{if_set_lem}
use Rattle.formula.specs.Fields.{has_principal_lem, has_first_lem, has_second_lem, has_back_lem}
use Rattle.encoding.specs.Encode.{OneByte, TwoBytes, PairOfBytes, encode_byte, encode_pair, encode_two, encode_all, Counts}
use Rattle.encoding.specs.Stages.{Stages, Unfit}
use Rattle.encoding.specs.File.{Earned}
use Rattle.proof_files.specs.ProofFile.{proof_opening, encode_rule, Links, encode_links, encode_node, encode_roots, encode_body, FitRule, Code, FitLinks, FitNode, FitRoots, FitProof}

-- what comes next in a node, after what has been read of it
pub data NodeStage : Type 0 where
  -- its map and rule
  at_rule : NodeStage
  -- the fields of a node of this rule, after which codes follow or not
  at_fields : ℕ → Bool → NodeStage
  -- the code count of a node of this rule with these fields
  at_code_count : ℕ → Links → NodeStage
  -- the next of m codes
  at_code : ℕ → Links → ℕ → List ℕ → NodeStage

-- the bytes read, from the node's first on
abbrev pub node_done : NodeStage → List ℕ
node_done at_rule = []
node_done (at_fields r b) = encode_rule (r, b)
node_done (at_code_count r v) = encode_rule (r, true) ++ encode_links r v
node_done (at_code r v m cs) = encode_rule (r, true) ++ (encode_links r v ++ (encode_byte m ++ encode_all encode_two cs))

-- how many bytes come next
abbrev pub node_width : NodeStage → ℕ
node_width at_rule = 2
node_width (at_fields r b) = if_set_lem (has_principal_lem r) 2 + (if_set_lem (has_first_lem r) 2 + (if_set_lem (has_second_lem r) 2 + if_set_lem (has_back_lem r) 2))
node_width (at_code_count r v) = 1
node_width (at_code r v m cs) = 2

module _ (t : Table) where
  -- some of m codes, well formed
  pub record SomeCodes (m : ℕ) (cs : List ℕ) : Type 0 where
    pub count : Counts 1 24 m
    pub fewer : length cs < m
    pub rising : Rising cs
    pub each : Each (Code t) cs

  -- and they are well formed
  abbrev pub NodeReached : NodeStage → Type 0
  NodeReached at_rule = Unit
  NodeReached (at_fields r b) = r ≤ Rule.BACK
  NodeReached (at_code_count r v) = (r ≤ Rule.BACK) × FitLinks r v
  NodeReached (at_code r v m cs) = (r ≤ Rule.BACK) × FitLinks r v × SomeCodes m cs

  -- bytes that may not come next, and the number that they earn
  abbrev pub NodeWrong : NodeStage → List ℕ → ℕ → Type 0
  -- map or rule unfit
  NodeWrong at_rule = Unfit encode_pair PairOfBytes FitRule 33
  NodeWrong (at_fields r b) = λ _ _. ⊥
  -- counts of node members belong to 32
  NodeWrong (at_code_count r v) = Unfit encode_byte OneByte (Counts 1 24) 32
  -- a member not rising, out of range, or a name
  NodeWrong (at_code r v m cs) = Unfit encode_two TwoBytes (λ c. Rising (cs ++ (c ∷ [])) × Formula t (entry_of_lem c)) 34

  abbrev pub node_stages : Stages
  node_stages = record { Stage = NodeStage; done = node_done; Reached = NodeReached; width = node_width; Wrong = NodeWrong }

-- some of the roots of g goals among n nodes, well formed; PRF2 alone writes them
pub record SomeRoots (f : Form) (g n : ℕ) (rs : List ℕ) : Type 0 where
  pub several : f ≡ clm2
  pub fewer : length rs < g
  pub rising : Rising rs
  pub each : Each (λ (r : ℕ). r < n) rs

-- a root list that isn't rising or in range
abbrev pub RootWrong : ℕ → List ℕ → List ℕ → ℕ → Type 0
RootWrong n rs = Unfit encode_two TwoBytes (λ r. Rising (rs ++ (r ∷ [])) × (r < n)) 34

-- what comes next is a root, after these
abbrev pub root_stages : Form → ℕ → ℕ → Stages
root_stages f g n = record { Stage = List ℕ; done = λ rs. encode_all encode_two rs; Reached = SomeRoots f g n; width = λ _. 2; Wrong = RootWrong n }

-- what comes next, after what has been read
pub data ProofStage : Type 0 where
  at_node_count : ProofStage
  -- the next root, after the count of n nodes and these roots
  at_root : ℕ → List ℕ → ProofStage
  -- in the next of n nodes, after the roots and these nodes
  at_node : ℕ → List ℕ → Proof → NodeStage → ProofStage

-- how many bytes come next
abbrev pub width : ProofStage → ℕ
width at_node_count = 2
width (at_root n rs) = 2
width (at_node n rs p σ) = node_width σ

module _ (c : Claim) where
  -- the bytes read, from the opening on
  abbrev pub done : ProofStage → List ℕ
  done at_node_count = []
  done (at_root n rs) = encode_two n ++ encode_all encode_two rs
  done (at_node n rs p σ) = encode_two n ++ (encode_roots c.form rs ++ (encode_all encode_node p ++ node_done σ))

  -- the roots and some of n nodes, well formed
  pub record SomeNodes (n : ℕ) (rs : List ℕ) (p : Proof) : Type 0 where
    pub count : Counts (fewest c.form) 1024 n
    pub roots : FitRoots c.form (length c.goals) n rs
    pub fewer : length p < n
    pub each : Each (FitNode c.entries) p

  -- and they are well formed
  abbrev pub Reached : ProofStage → Type 0
  Reached at_node_count = Unit
  Reached (at_root n rs) = Counts (fewest c.form) 1024 n × SomeRoots c.form (length c.goals) n rs
  Reached (at_node n rs p σ) = SomeNodes n rs p × NodeReached c.entries σ

  -- bytes that may not come next, and the number that they earn
  abbrev pub Wrong : ProofStage → List ℕ → ℕ → Type 0
  -- a count out of range; in PRF2 none is a node count too
  Wrong at_node_count = Unfit encode_two TwoBytes (Counts (fewest c.form) 1024) 32
  Wrong (at_root n rs) = RootWrong n rs
  Wrong (at_node n rs p σ) = NodeWrong c.entries σ

  abbrev pub proof_stages : Stages
  proof_stages = record { Stage = ProofStage; done = done; Reached = Reached; width = width; Wrong = Wrong }

  -- the proof file earns this refusal at this place
  abbrev pub ProofEarns : List ℕ → ℕ → ℕ → Type 0
  ProofEarns bytes n q = Earned (proof_opening c.form) 30 31 (encode_body c.form) (FitProof c) proof_stages bytes n q
