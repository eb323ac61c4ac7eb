-- `enter` meets its contract. The invariant: up to i the members are in their places, and the number held is still to enter those from i on.
use mathlib.Core.Path.{◌≡◌}
use lib.ListN.{length}
use Rattle.fitting.specs.Entering.{Passing}
use Rattle.fitting.proofs.enter.Given as goal

abbrev pub invariant-loop-i : goal.invariant-loop-i
invariant-loop-i l = (length l.members ≡ 24) × Passing l.entry l.count l.initial.members l.i l.held l.members
