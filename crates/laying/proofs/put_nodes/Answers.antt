use native.Mathlib.Omega.{arith}
use mathlib.Core.Path.{◌≡◌}
use mathlib.Core.List.{List, ◌++◌}
use Prim.Native.Nat.{ℕ, ◌+◌, ◌-◌, ◌≤◌}
use lib.ListN.{length, get_or}
use Rattle.formula.specs.Nodes.{Node}
use Rattle.proof_files.specs.ProofFile.{encode_node}
use Rattle.laying.specs.Laying.{Left, node_at, nodes_left, nodes_step, nodes_end_lem, less_left, none_left, room_left}
use Rattle.laying.proofs.put_nodes.Goals as goal
use Rattle.laying.proofs.put_nodes.Goals.{After-wide-count}

-- in a turn: this node, and what comes after it
module _ (c : After-wide-count) where
  abbrev v : ℕ
  v = c.loop-v.v

  abbrev start : ℕ
  start = c.loop-v.start

  abbrev count : ℕ
  count = c.wide-count.result

  abbrev this : Node
  this = node_at (get_or c.args.rules.now v 0) c.args.links.now v c.args.codes.now start count

  abbrev left : ℕ → ℕ → ℕ → List ℕ
  left = nodes_left c.args.rules.now c.args.links.now c.args.counts.now c.args.codes.now

  abbrev after : List ℕ
  after = left (v + 1) (c.args.nodes - (v + 1)) (start + count)

  steps : left v (c.args.nodes - v) start ≡ encode_node this ++ after
  steps =
      nodes_step c.args.rules.now c.args.links.now c.args.counts.now c.args.codes.now c.args.nodes v start count c.wide-count.ensures
      c.loop-v-test.true

  abbrev Rest : List ℕ → Type 0
  Rest l = Left (left 0 c.args.nodes 0) c.args.from c.args.out.now l c.loop-v.at c.loop-v.out

  this_left : Rest (encode_node this ++ after)
  this_left = rw (← steps) c.loop-v.invariant.1

  few : count ≤ 24
  few = omega (arith, c.wide-count.ensures, c.requires.1.few v c.loop-v-test.true)

  enough : start + count ≤ length c.args.codes.now
  enough = omega (arith, few, c.loop-v.invariant.0, c.requires.1.given.codes, c.loop-v-test.true)

pub put_node-at-requires : goal.put_node-at-requires
put_node-at-requires c =
    let t = (goal.at.put_node-at-requires c).After-wide-count in
    (room_left (encode_node (this t)) (after t) (this_left t) c.requires.0, omega (arith, c.requires.1.given.links), enough t, few t)

pub loop-v-preserved : goal.loop-v-preserved
loop-v-preserved c = let t = (goal.at.loop-v-preserved c).After-wide-count in (
  omega (arith, few t, c.loop-v.invariant.0),
  less_left (encode_node (this t)) (after t) (this_left t) c.put_node-at.ensures,
)

pub returns : goal.returns
returns c =
    let given = c.args in
    let last = c.loop-v in
    (none_left
    (nodes_end_lem given.rules.now given.links.now given.counts.now given.codes.now given.nodes last.v last.start (omega arith))
    last.invariant.1
    ).stored
