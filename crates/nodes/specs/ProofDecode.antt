-- the roots and the nodes of a proof file, read off the places where they stand
use Rattle.std.specs.Prelude.{◌≡◌, List, [], ◌∷◌, ◌++◌, ℕ, zero, suc, ◌+◌, ◌*◌, ◌<◌, ◌≤◌, leb, length, get_or, set}
use Rattle.std.proofs.Math.Path.{refl}
use Rattle.std.proofs.Common.{ap, ◌∙◌, add-one, arith}
use borrow.Author.Tests.{le-leb, lt-leb}
use Rattle.formula.specs.Nodes.{Node, Proof}
use Rattle.formula.specs.Claim.{Form, clm1, clm2, Derivation}
use Rattle.formula.specs.Fields.{link_width_lem}
use Rattle.encoding.specs.Parse.{pick}
use Rattle.encoding.specs.Places.{word_at}
use Rattle.proof_files.specs.ProofFile.{Links}
use Rattle.proof_files.specs.ProofParts.{links_at}

-- n two-byte numbers from a place on
unfoldable pub words_at : List ℕ → ℕ → ℕ → List ℕ
words_at s at zero = []
words_at s at (suc n) = word_at s at ∷ words_at s (at + 2) n

pub words_at_length : (s : List ℕ) (at n : ℕ) → length (words_at s at n) ≡ n
unfolding words_at
words_at_length s at zero = refl
words_at_length s at (suc n) = ap suc (words_at_length s (at + 2) n)

pub words_at_more : (s : List ℕ) (at n : ℕ) → words_at s at (n + 1) ≡ words_at s at n ++ (word_at s (at + 2 * n) ∷ [])
unfolding words_at
words_at_more s at n = ap (words_at s at) (add-one n) ∙ go n at
  where
    go : (n at : ℕ) → word_at s at ∷ words_at s (at + 2) n ≡ words_at s at n ++ (word_at s (at + 2 * n) ∷ [])
    go zero at = let e : at ≡ at + 2 * 0 = omega arith in ap (λ (k : ℕ). word_at s k ∷ []) e
    go (suc n) at =
        let e : at + 2 + 2 * n ≡ at + 2 * suc n = omega arith in
        ap (λ (l : List ℕ). word_at s at ∷ l) (go n (at + 2) ∙ ap (λ (k : ℕ). words_at s (at + 2) n ++ (word_at s k ∷ [])) e)

-- a node at a place: its fields end where its codes begin
abbrev pub codes_place : List ℕ → ℕ → ℕ
codes_place s at = at + 2 + link_width_lem (get_or s (at + 1) 0)

-- without bit 4 there is no count, and no code
abbrev pub code_count : List ℕ → ℕ → ℕ
code_count s at = pick (leb 16 (get_or s at 0)) (get_or s (codes_place s at) 0) 0

abbrev pub node_end : List ℕ → ℕ → ℕ
node_end s at = pick (leb 16 (get_or s at 0)) (codes_place s at + 1 + 2 * get_or s (codes_place s at) 0) (codes_place s at)

abbrev pub node_links : List ℕ → ℕ → Links
node_links s at = links_at (get_or s (at + 1) 0) s (at + 2)

unfoldable pub node_at : List ℕ → ℕ → Node
unfolding words_at
node_at s at =
    let v = node_links s at in
    record {
      rule = get_or s (at + 1) 0;
      principal = v.0;
      first = v.1.0;
      second = v.1.1.0;
      back = v.1.1.1;
      codes = words_at s (codes_place s at + 1) (code_count s at);
    }

-- a node's bytes are all there, and its codes are few
pub record NodeFits (s : List ℕ) (at : ℕ) : Type 0 where
  pub head : codes_place s at ≤ length s
  pub whole : node_end s at ≤ length s
  pub few : code_count s at ≤ 24

-- the codes of a node, from the place after its fields on
pub record WithCodes (s : List ℕ) (at k : ℕ) : Type 0 where
  pub ends : k + 1 + 2 * get_or s k 0 ≡ node_end s at
  pub many : get_or s k 0 ≡ code_count s at
  pub are : words_at s (k + 1) (get_or s k 0) ≡ (node_at s at).codes

pub record NoCodes (s : List ℕ) (at k : ℕ) : Type 0 where
  pub ends : k ≡ node_end s at
  pub many : 0 ≡ code_count s at
  pub are : [] ≡ (node_at s at).codes

module _ (s : List ℕ) (at : ℕ) where
  pub with_codes : 16 ≤ get_or s at 0 → (k : ℕ) → k ≡ codes_place s at → WithCodes s at k
  unfolding node_at
  with_codes h k e =
      let b = le-leb 16 (get_or s at 0) h in
      record { ends = rw (e, b) refl; many = rw (e, b) refl; are = rw (e, b) refl }

  pub no_codes : get_or s at 0 < 16 → (k : ℕ) → k ≡ codes_place s at → NoCodes s at k
  unfolding node_at words_at
  no_codes h k e =
      let b = lt-leb 16 (get_or s at 0) h in
      record { ends = rw (e, b) refl; many = rw b refl; are = rw b refl }

-- n nodes that follow each other from a place on
unfoldable pub nodes_at : List ℕ → ℕ → ℕ → Proof
unfolding node_at
nodes_at s at zero = []
nodes_at s at (suc n) = node_at s at ∷ nodes_at s (node_end s at) n

pub nodes_at_length : (s : List ℕ) (at n : ℕ) → length (nodes_at s at n) ≡ n
unfolding nodes_at
nodes_at_length s at zero = refl
nodes_at_length s at (suc n) = ap suc (nodes_at_length s (node_end s at) n)

pub data NodesFit (s : List ℕ) : ℕ → ℕ → Type 0 where
  no_node : {at : ℕ} → NodesFit s at 0
  one_more : {at n : ℕ} → NodeFits s at → NodesFit s (node_end s at) n → NodesFit s at (suc n)

-- the nodes of a file, from a place on; their number stands after the opening
abbrev pub proof_in : List ℕ → ℕ → Proof
proof_in s at = nodes_at s at (word_at s 4)

pub record Decodes (s : List ℕ) (at : ℕ) : Type 0 where
  pub counted : 6 ≤ length s
  pub long : at ≤ length s
  pub few : word_at s 4 ≤ 1024
  pub fit : NodesFit s at (word_at s 4)

-- beside a claim of k goals the roots stand after the node count; PRF1 does not write its only one
abbrev pub roots_in : Form → ℕ → List ℕ → List ℕ
roots_in clm1 k s = 0 ∷ []
roots_in clm2 k s = words_at s 6 k

-- and the nodes after these
abbrev pub nodes_place_lem : Form → ℕ → ℕ
nodes_place_lem clm1 k = 6
nodes_place_lem clm2 k = 6 + 2 * k

abbrev pub derivation_in : Form → ℕ → List ℕ → Derivation
derivation_in f k s = record { roots = roots_in f k s; nodes = proof_in s (nodes_place_lem f k) }

-- the four links of node v stand at 4 × v
abbrev pub set_links : List ℕ → ℕ → Links → List ℕ
set_links l v w = set (set (set (set l (4 * v) w.0) (4 * v + 1) w.1.0) (4 * v + 2) w.1.1.0) (4 * v + 3) w.1.1.1
