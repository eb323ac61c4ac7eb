-- the codes of sequents, and the entries that may be members
use Rattle.std.specs.Prelude.{◌≡◌, ◌≢◌, ℕ, ◌+◌, ◌*◌, ◌/◌, ◌%◌, ◌<◌, length}
use Rattle.std.proofs.Common.{arith}
use Rattle.formula.specs.Kind
use Rattle.formula.specs.Table.{Table, kind}

-- what a member may be: an entry of the table that is no name
pub record Formula (t : Table) (e : ℕ) : Type 0 where
  pub inside : e < length t
  pub no_name : kind t e ≢ Kind.NAME

-- 2 × entry + focus; focus 1 is in focus
abbrev pub code : ℕ → ℕ → ℕ
code e f = 2 * e + f

abbrev pub entry_of_lem : ℕ → ℕ
entry_of_lem c = c / 2

abbrev pub focus_of : ℕ → ℕ
focus_of c = c % 2

pub code_entry : (e f : ℕ) → f < 2 → entry_of_lem (code e f) ≡ e
code_entry e f h = omega arith

pub code_focus : (e f : ℕ) → f < 2 → focus_of (code e f) ≡ f
code_focus e f h = omega arith
