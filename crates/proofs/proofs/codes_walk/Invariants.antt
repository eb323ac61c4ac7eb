-- The codes read so far are a walk of the parser of codes: each turn is one of its steps, and each refusal one of its stops.
use mathlib.Core.List.{List}
use Prim.Native.Nat.{ℕ, ◌+◌, ◌*◌, ◌≤◌}
use lib.ListN.{length, drop}
use Rattle.encoding.specs.Walk.{Walking}
use Rattle.proof_files.specs.ReadProof.{is_code_lem}
use Rattle.proof_files.specs.ProofParts.{kind_table, number_from, after_number, codes_of}
use Rattle.proofs.proofs.codes_walk.Given as goal

abbrev pub invariant-loop-i : goal.invariant-loop-i
invariant-loop-i l =
    (l.start + 2 * l.i ≤ length l.bytes)
    × ((ns : List ℕ) × Walking (number_from (is_code_lem (kind_table l.kinds l.count))) after_number (codes_of (kind_table l.kinds l.count) l.n l.bytes l.start) l.n l.i ns l.least (drop (l.start + 2 * l.i) l.bytes) (l.start + 2 * l.i))
