-- The invariant: the rounds above q are done.
use Prim.Native.Nat.{◌+◌}
use Rattle.rounds.specs.Shaped.{BetweenIn}
use Rattle.rounds.proofs.fill.Given as goal

abbrev pub invariant-loop-q : goal.invariant-loop-q
invariant-loop-q l = BetweenIn l.shapes l.numbers l.bound l.marks (l.q + 1)
