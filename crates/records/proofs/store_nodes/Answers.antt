use Rattle.std.specs.Prelude.{refl}
use Rattle.std.proofs.Common.{arith}
use Rattle.verdict.specs.Lists.{values_from}
use Rattle.records.specs.Records.{node_of_lem}
use Rattle.records.specs.RecordLaws.{values_more}
use Rattle.records.proofs.store_nodes.Goals as goal

pub loop-i-init : goal.loop-i-init
unfolding values_from
loop-i-init c = refl

pub loop-i-preserved : goal.loop-i-preserved
loop-i-preserved c =
    values_more (node_of_lem c.args.rules.now c.args.links.now c.args.starts.now) _ _ _ _ c.loop-i.invariant c.node_of.ensures (omega (arith, c.requires.1))
