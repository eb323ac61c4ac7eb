-- proof files as the documents write them: the encoding beside a claim of either form, and which roots and nodes a file may hold there
use Rattle.std.specs.Prelude.{◌≡◌, ◌⊎◌, List, [], ◌∷◌, ◌++◌, Bool, true, false, ℕ, ◌+◌, ◌<◌, ◌≤◌, length}
use Rattle.verdict.specs.Lists.{Each, Rising}
use Rattle.formula.specs.Rule
use Rattle.formula.specs.Table.{Table}
use Rattle.formula.specs.Codes.{Formula, entry_of_lem}
use Rattle.formula.specs.Nodes.{Node, Proof}
use Rattle.formula.specs.Claim.{Form, clm1, clm2, fewest, Claim, Derivation}
use Rattle.bits.specs.IfSet.{if_set_lem}
use Rattle.formula.specs.Fields.{has_principal_lem, has_first_lem, has_second_lem, has_back_lem, low_map_lem}
use Rattle.encoding.specs.Encode.{FitField, TwoBytes, encode_byte, encode_two, encode_part, encode_field, encode_all, encode_counted, Counts}
use Rattle.encoding.specs.File.{Encodes}

-- the letters PRF1 beside a claim for one goal, PRF2 beside one for several
abbrev pub proof_opening : Form → List ℕ
proof_opening clm1 = 80 ∷ 82 ∷ 70 ∷ 49 ∷ []
proof_opening clm2 = 80 ∷ 82 ∷ 70 ∷ 50 ∷ []

-- a bit map byte, a rule byte: the low four bits by rule, bit 4 where codes follow
abbrev pub encode_rule : ℕ × Bool → List ℕ
encode_rule h = (low_map_lem h.0 + if_set_lem h.1 16) ∷ h.0 ∷ []

-- principal, first child, second child, back link: those whose if_set_lem stands
abbrev pub Links : Type 0
Links = ℕ × (ℕ × (ℕ × ℕ))

abbrev pub encode_links : ℕ → Links → List ℕ
encode_links r v =
    encode_field (has_principal_lem r) v.0
    ++ (encode_field (has_first_lem r) v.1.0 ++ (encode_field (has_second_lem r) v.1.1.0 ++ encode_field (has_back_lem r) v.1.1.1))

abbrev pub links : Node → Links
links v = (v.principal, (v.first, (v.second, v.back)))

-- a one-byte count and that many two-byte codes
abbrev pub encode_codes : List ℕ → List ℕ
encode_codes cs = encode_counted encode_byte encode_two cs

-- without bit 4 the sequent is empty
abbrev pub full : List ℕ → Bool
full [] = false
full (c ∷ cs) = true

abbrev pub encode_node : Node → List ℕ
encode_node v = encode_rule (v.rule, full v.codes) ++ (encode_links v.rule (links v) ++ encode_part (full v.codes) encode_codes v.codes)

-- two bytes for each root; PRF1 does not write its only one
abbrev pub encode_roots : Form → List ℕ → List ℕ
encode_roots clm1 rs = []
encode_roots clm2 rs = encode_all encode_two rs

-- two bytes node count, the roots, the nodes
abbrev pub encode_body : Form → Derivation → List ℕ
encode_body f d = encode_two (length d.nodes) ++ (encode_roots f d.roots ++ encode_all encode_node d.nodes)

abbrev pub encode_proof : Form → Derivation → List ℕ
encode_proof f d = proof_opening f ++ encode_body f d

-- a map, and a rule that it fits; bits 5 to 7 are zero
abbrev pub FitRule : ℕ × ℕ → Type 0
FitRule p = (p.1 ≤ Rule.BACK) × ((p.0 ≡ low_map_lem p.1) ⊎ (p.0 ≡ low_map_lem p.1 + 16))

-- a two-byte code whose entry is in range and no name
abbrev pub Code : Table → ℕ → Type 0
Code t c = TwoBytes c × Formula t (entry_of_lem c)

-- a field that the rule lacks is 0 in the record
pub record FitLinks (r : ℕ) (v : Links) : Type 0 where
  pub principal_fits : FitField (has_principal_lem r) v.0
  pub first_fits : FitField (has_first_lem r) v.1.0
  pub second_fits : FitField (has_second_lem r) v.1.1.0
  pub back_fits : FitField (has_back_lem r) v.1.1.1

pub record FitNode (t : Table) (v : Node) : Type 0 where
  pub known : v.rule ≤ Rule.BACK
  pub fields : FitLinks v.rule (links v)
  -- at most 24 codes, strictly rising
  pub few : length v.codes ≤ 24
  pub rising : Rising v.codes
  -- members are never name entries
  pub members : Each (Code t) v.codes

pub record FitNodes (f : Form) (t : Table) (p : Proof) : Type 0 where
  -- node count (1 to 1,024, in PRF2 from 0 on)
  pub count : Counts (fewest f) 1024 (length p)
  pub each : Each (FitNode t) p

-- the roots of n nodes that prove g goals
pub record Rooted (g n : ℕ) (rs : List ℕ) : Type 0 where
  -- as many root numbers as goals, strictly rising
  pub as_many : length rs ≡ g
  pub rising : Rising rs
  -- each is a node
  pub each : Each (λ (r : ℕ). r < n) rs

-- in PRF1 the root is node 0
abbrev pub FitRoots : Form → ℕ → ℕ → List ℕ → Type 0
FitRoots clm1 g n rs = rs ≡ 0 ∷ []
FitRoots clm2 g n rs = Rooted g n rs

pub record FitProof (c : Claim) (d : Derivation) : Type 0 where
  pub nodes : FitNodes c.form c.entries d.nodes
  pub roots : FitRoots c.form (length c.goals) (length d.nodes) d.roots

-- the bytes are a proof file with these roots and nodes, beside this claim
abbrev pub ProofFile : Claim → List ℕ → Derivation → Type 0
ProofFile c bytes d = Encodes (proof_opening c.form) (encode_body c.form) (FitProof c) bytes d
