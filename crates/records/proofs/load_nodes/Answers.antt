use Rattle.std.proofs.Common.{refl, arith}
use Rattle.std.proofs.lemmas.List.{length-set}
use Rattle.records.specs.RecordLaws.{nodes_none, nodes_more, start_fits}
use Rattle.records.proofs.load_nodes.Goals as goal

pub loop-i-init : goal.loop-i-init
loop-i-init c = nodes_none _ _ _ _ _ (omega (arith, c.requires)) refl

pub set_node-requires : goal.set_node-requires
set_node-requires c = (
  (omega (arith, c.requires), omega (arith, c.requires), omega (arith, c.requires, length-set c.args.starts.now 0 0)),
  start_fits c.args.nodes.now c.loop-i.i _ (omega (arith, c.requires)) refl c.args.count c.loop-i-test.true c.requires.2 c.loop-i.invariant,
)

pub loop-i-preserved : goal.loop-i-preserved
loop-i-preserved c =
    nodes_more c.args.nodes.now c.loop-i.i _ (omega (arith, c.requires)) refl
    (omega (arith, c.requires)) (omega (arith, c.requires)) (omega (arith, c.requires)) c.loop-i.invariant c.set_node.ensures
