-- `other_member` meets its contract. The invariant: the place sought from the first on is the place sought from i on.
use mathlib.Core.Path.{◌≡◌}
use Prim.Native.Nat.{◌+◌}
use lib.ListN.{length}
use Rattle.sequents.specs.Keys.{keys_of}
use Rattle.sequents.specs.Part.{part}
use Rattle.axioms.specs.AxiomParts.{first_other}
use Rattle.axioms.proofs.other_member.Given as goal

abbrev pub invariant-loop-i : goal.invariant-loop-i
invariant-loop-i l =
    first_other l.one (keys_of l.table.canon.now l.codes) ≡ l.i + first_other l.one (keys_of l.table.canon.now (part l.codes l.i (length l.codes)))
