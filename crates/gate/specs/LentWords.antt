-- the lent slices of an evaluation, by what the records in them show
use Rattle.std.specs.Prelude.{List, ℕ}
use Rattle.records.specs.Records.{shown_entries}
use Rattle.records.specs.declared.Entry.{Entry}
use Rattle.demands.specs.Slices.{LentWords}

abbrev pub lent_words_of : List Entry → List ℕ → LentWords
lent_words_of es ws = record { entries = shown_entries es; words = ws }
