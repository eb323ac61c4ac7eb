-- word by word
use Rattle.states.specs.Fill.{Filled}
use Rattle.blocks.specs.Waking.{woken_word}
use Rattle.blocks.proofs.wake.Given as goal

abbrev pub invariant-loop-i : goal.invariant-loop-i
invariant-loop-i l = Filled (woken_word l.users l.block l.e l.initial.waiting) l.initial.waiting l.i l.waiting
