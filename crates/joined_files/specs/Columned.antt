-- what two goals over one table are asked, and the joined goal, as the program has the table's columns
use Rattle.std.specs.Prelude.{List, ℕ}
use Rattle.formula.specs.declared.EntryColumns.{EntryColumns}
use Rattle.joined_files.specs.Ready.{Ready}
use Rattle.joined_files.specs.Paired.{Paired}

abbrev pub ReadyIn : ℕ → EntryColumns → ℕ → List ℕ → ℕ → List ℕ → List ℕ → Type 0
ReadyIn e t len ms k first second = Ready e t.kinds.now t.a.now t.b.now t.count len ms k first second

abbrev pub PairedIn : EntryColumns → ℕ → List ℕ → ℕ → ℕ → List ℕ → ℕ → ℕ → List ℕ → List ℕ → Type 0
PairedIn t len ms i j os h k first second = Paired t.kinds.now t.a.now t.b.now t.count len ms i j os h k first second
