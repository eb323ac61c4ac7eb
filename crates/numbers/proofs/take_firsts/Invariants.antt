-- The invariant: the entries passed have the least of their numbers.
use Rattle.numbers.specs.First.{FirstEach}
use Rattle.numbers.proofs.take_firsts.Given as goal

abbrev pub invariant-loop-e : goal.invariant-loop-e
invariant-loop-e l = FirstEach l.numbers l.least l.initial.canon l.canon l.e
