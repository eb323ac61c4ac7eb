-- the same of the columns that hold a claim
use Rattle.std.specs.Prelude.{List, ℕ, length}
use Rattle.forming.specs.declared.columns.ClaimColumns.{ClaimColumns}
use Rattle.dependencies.specs.Tops.{top_from, Tops}
use Rattle.dependencies.specs.Users.{Users, Entered}
use Rattle.dependencies.specs.Actions.{UsedActions}

abbrev pub top_in : ClaimColumns → List ℕ → ℕ → ℕ
top_in c ts e = top_from c.kinds.now c.a.now c.b.now ts e

abbrev pub TopsIn : ClaimColumns → List ℕ → Type 0
TopsIn c ts = Tops c.kinds.now c.a.now c.b.now ts

abbrev pub EnteredIn : ClaimColumns → ℕ → List ℕ → List ℕ → Type 0
EnteredIn c e us vs = Entered c.kinds.now c.a.now c.b.now e us vs

abbrev pub UsersIn : ClaimColumns → List ℕ → Type 0
UsersIn c us = Users c.kinds.now c.a.now c.b.now us

-- of all its entries
abbrev pub UsedIn : ClaimColumns → ℕ → Type 0
UsedIn c used = UsedActions c.kinds.now c.b.now (length c.kinds.now) used
