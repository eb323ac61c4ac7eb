-- the marks of an operand of an entry, by the field that names it
use Rattle.std.specs.Prelude.{ℕ, ◌<◌, get_or}
use Rattle.name_sets.specs.Ordered.{Bits}
use Rattle.name_sets.specs.RowWords.{row_of}
use Rattle.name_sets.specs.declared.Names.{Names}
use Rattle.thinning.specs.declared.Owner.{Owner}
use Rattle.thinning.specs.Marked.{among}
use Rattle.thinning.specs.Columns.{IsTwo}

abbrev pub Thins : Owner → ℕ → Names → Type 0
Thins o field x = field < o.table.now.count → Bits x (among o.own (row_of o.free.now field) o.table.now.count)

-- where the entry has two
abbrev pub ThinsTwo : Owner → ℕ → Names → Type 0
ThinsTwo o field x = IsTwo (get_or o.table.now.kinds.now o.e 0) → Thins o field x
