-- what is made once of a claim, before its entries are evaluated
use Rattle.std.specs.Prelude.{List, ℕ}
use Rattle.dependencies.specs.Tops.{Tops}
use Rattle.dependencies.specs.Users.{Users}

-- the tables made once
pub record Prepared (ks xs ys ts us : List ℕ) : Type 0 where
  pub tops : Tops ks xs ys ts
  pub users : Users ks xs ys us
