-- so far the successors rise; the last of them is the largest
use Prim.Native.Nat.{◌≤◌}
use Rattle.model.specs.SuccessorsRise.{Risen}
use Rattle.model.proofs.judge.successors_fit.Given as goal

abbrev pub invariant-loop-byte : goal.invariant-loop-byte
invariant-loop-byte l = (l.least ≤ 256) × Risen l.bytes l.from l.count l.byte-index l.least
