-- the columns of the first e entries, as the program has the table
use Rattle.std.specs.Prelude.{List, ℕ}
use Rattle.formula.specs.declared.EntryColumns.{EntryColumns}
use Rattle.thinning.specs.Columns.{Prepared}

abbrev pub PreparedIn : EntryColumns → List ℕ → List ℕ → List ℕ → List ℕ → List ℕ → ℕ → Type 0
PreparedIn t = Prepared t.kinds.now t.a.now t.b.now t.count
