-- two halves that fit, each with its correct proof
use Rattle.std.specs.Prelude.{List, ℕ, ◌<◌, length}
use Rattle.formula.specs.Table.{Table}
use Rattle.formula.specs.Nodes.{Proof}
use Rattle.calculus.specs.CorrectNodes.{CorrectNodes}
use Rattle.calculus.specs.Goals.{Claimed}
use Rattle.joining.specs.Goals.{Members, Fit}
use Rattle.joining.specs.Joined.{one_goal, one_tree}

-- two correct proofs of goals that fit
pub record Halves (t : Table) (e : ℕ) (l r : List ℕ) (p q : Proof) : Type 0 where
  pub first_some : 0 < length p
  pub second_some : 0 < length q
  pub first_correct : CorrectNodes (one_goal t l) (one_tree p)
  pub second_correct : CorrectNodes (one_goal t r) (one_tree q)
  pub first_claimed : Claimed (one_goal t l) (one_tree p)
  pub second_claimed : Claimed (one_goal t r) (one_tree q)
  pub first_members : Members t l
  pub fit : Fit t e l r
