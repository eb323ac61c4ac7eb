use Rattle.std.proofs.Common.{arith, ◌∙◌, ◌<◌}
use Rattle.encoding.specs.Places.{word_at}
use Rattle.nodes.specs.ProofDecode.{nodes_at_length}
use Rattle.renumbering.specs.Copying.{copying_begins, copying_steps, copying_ends, node_fits, node_moves, node_room}
use Rattle.renumbering.proofs.copy_nodes.Goals as goal
use Rattle.renumbering.proofs.copy_nodes.Goals.{In-loop}

-- in a turn there is a node left
unfinished : (c : In-loop) → c.loop.counter < word_at c.args.bytes.now 4
unfinished c = omega (arith, c.loop.invariant.0, c.loop-test.true)

pub loop-init : goal.loop-init
loop-init c =
    let file = c.args.bytes.now in
    (c.node_count-n.ensures 6 ∙ nodes_at_length file 6 (word_at file 4), copying_begins c.requires.0 c.requires.1)

pub copy_node-places-requires : goal.copy_node-places-requires
copy_node-places-requires c =
    let so_far = c.loop.invariant.1 in
    let here = unfinished (goal.at.copy_node-places-requires c).In-loop in
    (node_fits so_far here, omega (arith, so_far.near, c.requires.0.few), node_moves so_far here, node_room so_far here c.requires.2)

pub loop-preserved : goal.loop-preserved
loop-preserved c =
    let so_far = c.loop.invariant in
    let copied = c.copy_node-places.ensures in
    (so_far.0, copying_steps so_far.1 (unfinished (goal.at.loop-preserved c).In-loop) copied.0 copied.1)

pub returns : goal.returns
returns c = copying_ends c.loop.invariant.1 (omega (arith, c.loop.invariant.0))
