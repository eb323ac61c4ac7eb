use native.Mathlib.Omega.{arith}
use mathlib.Core.List.{[]}
use Rattle.verdict.proofs.PassedOn.{passed_on}
use Rattle.proof_files.specs.ReadProof.{node}
use Rattle.encoding.specs.Walk.{walk_begins, walk_steps, walk_stops, walk_ends}
use Rattle.proof_files.specs.ProofParts.{kind_table, nodes_of}
use Rattle.proofs.proofs.nodes_walk.Goals as goal

pub loop-node-init : goal.loop-node-init
unfolding nodes_of
loop-node-init c = (omega arith, omega arith, ([], walk_begins _ _ _ _ _ _))

pub returns-in_err-at : goal.returns-in_err-at
returns-in_err-at c =
    rw (passed_on _ c.from_residual.ensures.1)
    (walk_stops (λ _. node (kind_table c.args.kinds.now c.args.count)) (λ _ _. 0) c.loop-node.invariant.2.1 c.loop-node-test.true c.in_err-at.ensures)

pub loop-node-preserved : goal.loop-node-preserved
loop-node-preserved c =
    let (x, f) = c.in_ok-at.ensures in (
      f.inside,
      omega (arith, f.near),
      (_, walk_steps (λ _. node (kind_table c.args.kinds.now c.args.count)) (λ _ _. 0) c.loop-node.invariant.2.1 c.loop-node-test.true f.found),
    )

pub returns : goal.returns
returns c = (
  _,
  record {
    found = walk_ends (λ _. node (kind_table c.args.kinds.now c.args.count)) (λ _ _. 0) c.loop-node.invariant.2.1 c.loop-node-test.false;
    inside = omega arith;
    near = omega arith;
  },
)
