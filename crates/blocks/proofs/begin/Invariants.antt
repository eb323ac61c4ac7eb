-- those that are left wait for the start
use mathlib.Core.Path.{◌≡◌}
use lib.ListN.{length}
use Rattle.bits.specs.WordSet.{in_set}
use Rattle.entry_sets.specs.Sets.{Lowest}
use Rattle.entry_sets.specs.Counting.{count}
use Rattle.blocks.specs.Turn.{Beginning}
use Rattle.blocks.proofs.begin.Given as goal

abbrev pub invariant-loop-e : goal.invariant-loop-e
invariant-loop-e l = Beginning l.block l.start l.initial.words l.left l.words × Lowest l.left l.e × (length l.initial.words ≡ 256)

abbrev pub decreases-loop-e : goal.decreases-loop-e
decreases-loop-e l = count 256 (in_set l.left)
