-- The invariant: so many entries are read and their columns stored, and the rest is read from the present place on.
use Rattle.claim_entries.specs.ClaimEntries.{Entered}
use Rattle.claim_entries.proofs.store_entries.Given as goal

abbrev pub invariant-loop-i : goal.invariant-loop-i
invariant-loop-i l = Entered l.bytes l.from l.count l.initial.kinds l.initial.a l.initial.b l.i l.at l.kinds l.a l.b
