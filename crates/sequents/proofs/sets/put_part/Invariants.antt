-- `put_part` meets its contract. The invariant: the set holds the members from i on.
use lib.ListN.{length}
use Rattle.sequents.specs.CodeSet.{Holds}
use Rattle.sequents.specs.Keys.{keys_of}
use Rattle.sequents.specs.Part.{part}
use Rattle.sequents.proofs.sets.put_part.Given as goal

abbrev pub invariant-loop-i : goal.invariant-loop-i
invariant-loop-i l = Holds l.set (keys_of l.table.canon.now (part l.codes l.i (length l.codes)))
