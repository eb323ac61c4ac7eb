-- before node v: both tables tell the paths down to all nodes below v
use mathlib.Core.Path.{◌≡◌}
use lib.ListN.{length}
use Rattle.loops.specs.PathLaws.{PathsBelow}
use Rattle.loops.proofs.fill_paths.Given as goal

abbrev pub invariant-loop-v : goal.invariant-loop-v
invariant-loop-v l =
    (length l.bars ≡ length l.initial.bars) × (length l.boxes ≡ length l.initial.boxes) × PathsBelow l.proof.tree.rules.now l.proof.starts.now l.proof.codes.now l.proof.tree.nodes l.owners.table.now l.v l.bars l.boxes
