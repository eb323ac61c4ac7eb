use Rattle.std.proofs.Common.{refl, arith}
use Rattle.records.specs.RecordLaws.{fields_none, fields-more}
use Rattle.records.proofs.load_node_fields.Goals as goal

pub loop-i-init : goal.loop-i-init
loop-i-init c = fields_none _ _ _ _

pub loop-i-preserved : goal.loop-i-preserved
loop-i-preserved c =
    fields-more c.args.nodes.now c.loop-i.i _ (omega (arith, c.requires)) refl
    (omega (arith, c.requires)) (omega (arith, c.requires)) (omega (arith, c.requires)) c.loop-i.invariant c.set_node_fields.ensures
