-- The invariant: of the entries passed, the least of each number.
use Rattle.numbers.specs.First.{Firsts}
use Rattle.numbers.proofs.find_firsts.Given as goal

abbrev pub invariant-loop-e : goal.invariant-loop-e
invariant-loop-e l = Firsts l.kinds l.numbers l.count l.least l.e
