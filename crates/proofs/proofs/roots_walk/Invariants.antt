-- The roots read so far are a walk of the parser of numbers: each turn is one of its steps, and each refusal one of its stops.
use mathlib.Core.List.{List}
use Prim.Native.Nat.{ℕ, ◌+◌, ◌*◌, ◌≤◌}
use lib.ListN.{length, drop}
use Rattle.encoding.specs.Walk.{Walking}
use Rattle.proof_files.specs.ReadProof.{is_node}
use Rattle.proof_files.specs.ProofParts.{number_from, after_number, numbers_of}
use Rattle.proofs.proofs.roots_walk.Given as goal

abbrev pub invariant-loop-i : goal.invariant-loop-i
invariant-loop-i l =
    (6 + 2 * l.i ≤ length l.bytes)
    × ((ns : List ℕ) × Walking (number_from (is_node l.nodes)) after_number (numbers_of (is_node l.nodes) l.goals l.bytes 6) l.goals l.i ns l.least (drop (6 + 2 * l.i) l.bytes) (6 + 2 * l.i))
