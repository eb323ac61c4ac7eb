-- the file of the joined proof by the runs of which it is stored: opening and count, the new root, the first tree, the second
use Rattle.std.specs.Prelude.{◌≡◌, ℕ, ◌+◌, ◌≤◌, length}
use Rattle.std.proofs.Common.{sym, ap₂, ◌∙◌, arith}
use Rattle.std.proofs.Math.Path.{ap}
use mathlib.Core.List.{List, ◌++◌}
use Rattle.formula.specs.Nodes.{Proof}
use Rattle.formula.specs.Claim.{clm1}
use Rattle.encoding.specs.Encode.{encode_two, encode_all}
use Rattle.proof_files.specs.ProofFile.{proof_opening, encode_node}
use Rattle.joining.specs.Shift.{shifted}
use Rattle.joining.specs.Joined.{proof_bytes, joined_root, joined_nodes}
use Rattle.joining.specs.JoinedTree.{both-length}
use Rattle.joining.specs.Lengths.{all_split}

-- of two trees with n and m nodes
abbrev pub opening_bytes : ℕ → ℕ → List ℕ
opening_bytes n m = proof_opening clm1 ++ encode_two (n + m + 1)

-- a tree, numbered d further on
abbrev pub tree_bytes : ℕ → Proof → List ℕ
tree_bytes d p = encode_all encode_node (shifted d p)

module _ (e : ℕ) (ms : List ℕ) (p q : Proof) where
  abbrev pub joined_parts : ℕ → ℕ → List ℕ
  joined_parts n m = opening_bytes n m ++ (encode_node (joined_root e ms n) ++ (tree_bytes 1 p ++ tree_bytes (n + 1) q))

  whole_parts : joined_parts (length p) (length q) ≡ proof_bytes (joined_nodes e ms p q)
  unfolding encode_all
  whole_parts =
      ap (λ (s : List ℕ). opening_bytes (length p) (length q) ++ (encode_node (joined_root e ms (length p)) ++ s))
      (sym (all_split (shifted 1 p) (shifted (length p + 1) q)))
      ∙ ap (λ (n : ℕ). (proof_opening clm1 ++ encode_two n) ++ encode_all encode_node (joined_nodes e ms p q)) (sym (both-length e ms p q))

  module _ {n m : ℕ} (first : n ≡ length p) (second : m ≡ length q) where
    pub joined_parts_lem : joined_parts n m ≡ proof_bytes (joined_nodes e ms p q)
    joined_parts_lem = ap₂ {C = List ℕ} (λ a b. joined_parts a b) first second ∙ whole_parts

    pub joined_fits : (out : List ℕ) → length (proof_bytes (joined_nodes e ms p q)) ≤ length out → 0 + length (joined_parts n m) ≤ length out
    joined_fits out h = omega (arith, ap length joined_parts_lem)
