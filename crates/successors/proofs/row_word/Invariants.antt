-- the states from a group's first on that are marked, in whole groups of sixteen
use Prim.Native.Nat.{◌+◌, ◌*◌, ◌/◌}
use Rattle.bits.specs.Bits.{bit}
use Rattle.model_files.specs.DescribedLaws.{cell}
use Rattle.states.specs.TopDown.{Upper}
use Rattle.successors.proofs.row_word.Given as goal

abbrev pub invariant-loop-group : goal.invariant-loop-group
invariant-loop-group l = Upper (16 * ((l.n + 15) / 16)) (λ k. bit (cell l.table.marks.now l.s k) l.a) (16 * l.group) l.r
