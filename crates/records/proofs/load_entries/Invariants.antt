-- So many records are loaded, and the columns are unchanged beyond them.
use Rattle.records.specs.Records.{EntriesLoaded}
use Rattle.records.proofs.load_entries.Given as goal

abbrev pub invariant-loop-i : goal.invariant-loop-i
invariant-loop-i l = EntriesLoaded l.entries l.i l.initial.kinds l.initial.a l.initial.b l.kinds l.a l.b
