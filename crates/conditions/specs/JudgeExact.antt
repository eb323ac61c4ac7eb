-- a table that no condition of 20, 71 and 21 to 23 finds at fault
use Rattle.std.specs.Prelude.{Bool, ℕ}
use Rattle.formula.specs.Table.{Table}
use Rattle.formula.specs.Shape.{shape}
use Rattle.conditions.specs.Formed.{Placed, Fits}
use Rattle.verdict.specs.Tests.{choose}
use Rattle.conditions.specs.Judge.{bad}

-- none of 20, 71 and 21 to 23
pub record Clean (z : ℕ → Bool) (t : Table) : Type 0 where
  pub placed : (w : ℕ) → Placed z t w
  pub fit : (w : ℕ) → Fits t w

module _ (z : ℕ → Bool) (t : Table) where
  abbrev out : ℕ → Bool
  out e = bad t e (shape t e)

  abbrev pub num20 : ℕ → ℕ
  num20 e = choose (out e) 20 71
