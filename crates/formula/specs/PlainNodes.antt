-- a node table in plain numbers: rules, four links to a node, where each node's codes start, and the codes
use Rattle.std.specs.Prelude.{◌≡◌, ℕ, ◌+◌, ◌*◌, ◌-◌, ◌<◌, length, get_or, take, drop}
use Rattle.std.proofs.Math.Path.{ap}
use Rattle.std.proofs.Common.{◌∙◌, arith}
use mathlib.Core.List.{List, []}
use Rattle.verdict.specs.Lists.{values_from, values_from_length, values_from_at}
use Rattle.formula.specs.Rule
use Rattle.formula.specs.Nodes.{Node, Proof, node}

-- the codes of node v stand from its start up to the next node's
abbrev pub codes_at_lem : List ℕ → List ℕ → ℕ → List ℕ
codes_at_lem ss cs v = take (get_or ss (v + 1) 0 - get_or ss v 0) (drop (get_or ss v 0) cs)

-- the links of node v stand at 4 × v: principal, first child, second child, back link
abbrev pub plain_node : List ℕ → List ℕ → List ℕ → List ℕ → ℕ → Node
plain_node rs ls ss cs v = record {
  rule = get_or rs v 0;
  principal = get_or ls (4 * v) 0;
  first = get_or ls (4 * v + 1) 0;
  second = get_or ls (4 * v + 2) 0;
  back = get_or ls (4 * v + 3) 0;
  codes = codes_at_lem ss cs v;
}

unfoldable pub proof_of : List ℕ → List ℕ → List ℕ → List ℕ → ℕ → Proof
unfolding values_from
proof_of rs ls ss cs n = values_from (plain_node rs ls ss cs) 0 n

module _ (rs ls ss cs : List ℕ) (n : ℕ) where
  pub proof_of_length : length (proof_of rs ls ss cs n) ≡ n
  unfolding proof_of
  proof_of_length = values_from_length (plain_node rs ls ss cs) 0 n

  pub proof_of_node : (v : ℕ) → v < n → node (proof_of rs ls ss cs n) v ≡ plain_node rs ls ss cs v
  unfolding proof_of
  proof_of_node v h =
      values_from_at (plain_node rs ls ss cs) (record { rule = Rule.AX1; principal = 0; first = 0; second = 0; back = 0; codes = [] }) 0 n v h
      ∙ ap (plain_node rs ls ss cs) (omega arith)

  pub proof_of_rule : (v : ℕ) → v < n → (node (proof_of rs ls ss cs n) v).rule ≡ get_or rs v 0
  proof_of_rule v h = ap (λ (x : Node). x.rule) (proof_of_node v h)

  pub proof_of_back : (v : ℕ) → v < n → (node (proof_of rs ls ss cs n) v).back ≡ get_or ls (4 * v + 3) 0
  proof_of_back v h = ap (λ (x : Node). x.back) (proof_of_node v h)
