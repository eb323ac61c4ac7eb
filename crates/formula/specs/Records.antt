-- the records that stand in a caller's slices: a node's has the count of its codes, which follow each other in a slice of their own
use Rattle.std.specs.Prelude.{List, [], ◌∷◌, ◌++◌, ℕ, length}
use Rattle.formula.specs.Nodes.{Node, Proof}

-- the rule, the four two-byte fields and the code count
pub record NodeRecord : Type 0 where
  pub rule : ℕ
  pub principal : ℕ
  pub first : ℕ
  pub second : ℕ
  pub back : ℕ
  pub count : ℕ

abbrev pub record_of : Node → NodeRecord
record_of v = record {
  rule = v.rule;
  principal = v.principal;
  first = v.first;
  second = v.second;
  back = v.back;
  count = length v.codes;
}

unfoldable pub node_records : Proof → List NodeRecord
node_records [] = []
node_records (v ∷ p) = record_of v ∷ node_records p

-- the codes of all nodes in file order, without gaps
unfoldable pub all_codes : Proof → List ℕ
all_codes [] = []
all_codes (v ∷ p) = v.codes ++ all_codes p
