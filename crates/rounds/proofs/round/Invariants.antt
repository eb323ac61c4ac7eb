-- The invariant: the entries passed have their numbers.
use Rattle.rounds.specs.Shaped.{RoundIn}
use Rattle.rounds.proofs.round.Given as goal

abbrev pub invariant-loop-e : goal.invariant-loop-e
invariant-loop-e l = RoundIn l.shapes l.numbers l.bound l.marks l.q l.e
