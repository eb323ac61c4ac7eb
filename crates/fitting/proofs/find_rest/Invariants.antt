-- `find_rest` meets its contract. The invariant: of the members before i those that pass are stored.
use mathlib.Core.Path.{◌≡◌}
use mathlib.Core.List.{List}
use Prim.Native.Nat.{ℕ, ◌+◌, ◌≤◌}
use lib.ListN.{length}
use Rattle.verdict.specs.Tests.{member}
use Rattle.sequents.specs.CodeSet.{Holds}
use Rattle.sequents.specs.Keys.{in_focus}
use Rattle.sequents.specs.Part.{part}
use Rattle.fitting.specs.Sifting.{Sifting}
use Rattle.fitting.proofs.find_rest.Given as goal

abbrev pub invariant-loop-i : goal.invariant-loop-i
invariant-loop-i l =
    (l.found + l.from ≤ l.i) × (length l.rest ≡ 24)
    × ((m : List ℕ) → Holds l.second m → Sifting (λ e. member m (in_focus l.canon e)) (part l.members l.from l.to) (part l.members l.i l.to) l.initial.rest l.found l.rest)
