-- The nodes read so far are a walk of the parser of nodes, each at most 57 bytes long.
use Prim.Native.Nat.{◌+◌, ◌*◌, ◌≤◌}
use lib.ListN.{length, drop}
use Rattle.formula.specs.Nodes.{Proof}
use Rattle.proof_files.specs.ReadProof.{node}
use Rattle.encoding.specs.Walk.{Walking}
use Rattle.proof_files.specs.ProofParts.{kind_table, nodes_of}
use Rattle.proofs.proofs.nodes_walk.Given as goal

abbrev pub invariant-loop-node : goal.invariant-loop-node
invariant-loop-node l =
    (l.at ≤ length l.bytes)
    × (l.at ≤ l.start + 57 * l._node)
    × ((ns : Proof) × Walking (λ _. node (kind_table l.kinds l.count)) (λ _ _. 0) (nodes_of (kind_table l.kinds l.count) l.n l.bytes l.start) l.n l._node ns 0 (drop l.at l.bytes) l.at)
