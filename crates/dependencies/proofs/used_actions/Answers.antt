use Rattle.dependencies.specs.Actions.{used_none, used_more}
use Rattle.dependencies.proofs.used_actions.Goals as goal

pub loop-e-init : goal.loop-e-init
loop-e-init c = used_none _ _

pub loop-e-preserved : goal.loop-e-preserved
loop-e-preserved c = used_more c.loop-e.invariant c.action_bit-used.ensures

pub action_bit-used-requires : goal.action_bit-used-requires
action_bit-used-requires c = c.requires.2 _ c.loop-e-test.true
