-- entry tables: an entry's record is its kind, A and B; a field that the kind lacks is 0
use Rattle.std.specs.Prelude.{List, ℕ, get_or}
use Rattle.formula.specs.Kind

pub record Entry : Type 0 where
  pub kind : ℕ
  pub a : ℕ
  pub b : ℕ

-- entries are numbered from 0
abbrev pub Table : Type 0
Table = List Entry

abbrev pub blank : Entry
blank = record { kind = Kind.FALSE; a = 0; b = 0 }

abbrev pub entry : Table → ℕ → Entry
entry t e = get_or t e blank

abbrev pub kind : Table → ℕ → ℕ
kind t e = (entry t e).kind

-- the action of a box or diamond stands in its field B
abbrev pub action : Table → ℕ → ℕ
action t e = (entry t e).b
