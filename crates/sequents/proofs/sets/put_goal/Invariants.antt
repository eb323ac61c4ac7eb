-- `put_goal` meets its contract. The invariant: the set holds the members from i on, in focus.
use Prim.Native.Nat.{◌≤◌}
use Rattle.verdict.specs.Tests.{each}
use Rattle.sequents.specs.Part.{part}
use Rattle.sequents.specs.CodeSet.{Holds}
use Rattle.sequents.specs.Keys.{in_focus}
use Rattle.sequents.proofs.sets.put_goal.Given as goal

abbrev pub invariant-loop-i : goal.invariant-loop-i
invariant-loop-i l = (l.from ≤ l.i) × Holds l.set (each (in_focus l.canon) (part l.members l.i l.to))
