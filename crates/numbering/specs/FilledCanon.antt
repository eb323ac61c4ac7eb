-- a table's numbers and free names as tests
use Rattle.std.specs.Prelude.{Bool, not, ◌&&◌, ℕ, eqb}
use Rattle.formula.specs.Kind
use Rattle.formula.specs.Table.{Table, kind}
use Rattle.conditions.specs.Rows.{has}
use Rattle.conditions.specs.TestLaws.{free_set}

-- whether entry f is no name and has the number of e: what a program looks for
unfoldable pub has_number : Table → (ℕ → ℕ) → ℕ → ℕ → Bool
has_number t number e f = not (eqb (kind t f) Kind.NAME) && eqb (number e) (number f)

-- the test by the rows of free names that 21 to 23 go by
abbrev pub free_test : Table → ℕ → ℕ → Bool
free_test t e x = has (free_set t e) x
