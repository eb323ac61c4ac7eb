-- So many records are written, and the slice is unchanged beyond them.
use Rattle.std.specs.Prelude.{◌≡◌}
use Rattle.verdict.specs.Lists.{written}
use Rattle.records.specs.Records.{entries_of}
use Rattle.records.proofs.store_entries.Given as goal

abbrev pub invariant-loop-i : goal.invariant-loop-i
invariant-loop-i l = l.entries ≡ written (entries_of l.kinds l.a l.b l.i) l.initial.entries
