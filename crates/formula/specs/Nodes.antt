-- node tables: a node's rule, its four fields, of which one that the rule lacks is 0, and the codes of its sequent
use Rattle.std.specs.Prelude.{List, [], ℕ, get_or}
use Rattle.formula.specs.Rule

pub record Node : Type 0 where
  pub rule : ℕ
  pub principal : ℕ
  pub first : ℕ
  pub second : ℕ
  pub back : ℕ
  pub codes : List ℕ

-- nodes are numbered from 0, the root
abbrev pub Proof : Type 0
Proof = List Node

abbrev pub node : Proof → ℕ → Node
node p v = get_or p v (record { rule = Rule.AX1; principal = 0; first = 0; second = 0; back = 0; codes = [] })
