-- what the numbering asks of a table, as the program has its columns
use Rattle.formula.specs.declared.EntryColumns.{EntryColumns}
use Rattle.numbers.specs.Numbered.{Numberable}

abbrev pub NumberableIn : EntryColumns → Type 0
NumberableIn t = Numberable t.kinds.now t.a.now t.b.now t.count
