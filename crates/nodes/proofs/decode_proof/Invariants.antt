-- After i turns the first i nodes are stored, and the others stand from the place reached on.
use mathlib.Core.Path.{◌≡◌}
use Rattle.encoding.specs.Places.{word_at}
use Rattle.nodes.specs.ProofStored.{Storing}
use Rattle.nodes.proofs.decode_proof.Given as goal

abbrev pub invariant-loop-i : goal.invariant-loop-i
invariant-loop-i l =
    (l.n ≡ word_at l.bytes 4) × Storing l.bytes l.at l.initial.rules l.initial.links l.initial.starts l.initial.codes l.rules l.links l.starts l.codes l.spot.at l.spot.start l.i
