-- the lent slices of records, by what the records in them show
use Rattle.std.specs.Prelude.{List, ℕ}
use Rattle.records.specs.Records.{shown_entries, shown_nodes}
use Rattle.records.specs.declared.Entry.{Entry}
use Rattle.records.specs.declared.Node.{Node}
use Rattle.demands.specs.Slices.{Lent}

-- the slices of presenting
abbrev pub lent_of : List Entry → List Node → List ℕ → Lent
lent_of es vs cs = record { entries = shown_entries es; nodes = shown_nodes vs; codes = cs }
