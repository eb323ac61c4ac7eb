-- by the group of its kind
use native.Mathlib.Omega.{arith}
use Rattle.dependencies.specs.Actions.{Modal, no_action, its_action}
use Rattle.dependencies.proofs.action_bit.Goals as goal

pub returns-then-matches : goal.returns-then-matches
returns-then-matches c =
    let modal : Modal c.args.kind = (grind arith, grind arith) in
    its_action _ modal (c.requires modal)

pub returns-else-matches : goal.returns-else-matches
returns-else-matches c = no_action _ (λ m. grind (arith, m))
