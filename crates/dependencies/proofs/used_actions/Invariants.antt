-- the map has the actions of the entries below e
use Rattle.dependencies.specs.Actions.{UsedActions}
use Rattle.dependencies.proofs.used_actions.Given as goal

abbrev pub invariant-loop-e : goal.invariant-loop-e
invariant-loop-e l = UsedActions l.kinds l.b l.e l.used
