-- After i turns the first i members stand there as codes in focus.
use Rattle.std.proofs.Common.{◌≡◌, take}
use Rattle.verdict.specs.Lists.{written}
use Rattle.joining.specs.Joined.{in_focus}
use Rattle.joined_proofs.proofs.put_focused.Given as goal

abbrev pub invariant-loop-i : goal.invariant-loop-i
invariant-loop-i l = l.codes ≡ written (in_focus (take l.i l.members)) l.initial.codes
