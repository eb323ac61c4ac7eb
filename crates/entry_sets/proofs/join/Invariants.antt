-- word by word
use Rattle.states.specs.Fill.{Filled}
use Rattle.entry_sets.specs.Sets.{joined_word_lem}
use Rattle.entry_sets.proofs.join.Given as goal

abbrev pub invariant-loop-i : goal.invariant-loop-i
invariant-loop-i l = Filled (joined_word_lem l.initial.set l.more) l.initial.set l.i l.set
