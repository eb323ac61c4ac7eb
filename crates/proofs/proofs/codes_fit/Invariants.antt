-- The codes passed are read whatever stands in front of them, if it is below the lowest of them: each turn puts one in front.
use Prim.Native.Nat.{◌+◌, ◌*◌, ◌≤◌}
use lib.ListN.{length}
use Rattle.proof_files.specs.ProofParts.{kind_table}
use Rattle.proofs.specs.ProofLaws.{CodesFrom}
use Rattle.proofs.proofs.codes_fit.Given as goal

abbrev pub invariant-loop-i : goal.invariant-loop-i
invariant-loop-i l =
    (l.above ≤ 2 * l.count) × (l.start + 2 * l.n ≤ length l.bytes) × CodesFrom (kind_table l.kinds l.count) l.bytes l.start l.n l.i l.above
