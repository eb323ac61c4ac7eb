-- a claim has no action past 15
use Rattle.dependencies.specs.Actions.{near_actions}
use Rattle.evaluator.proofs.fill_all.Goals as goal

pub used_actions-used-requires : goal.used_actions-used-requires
used_actions-used-requires c = near_actions c.args.claim.now.is_claim
