use mathlib.Core.Path.{refl}
use native.Mathlib.Omega.{arith}
use Rattle.permit.specs.GateState.{taking}
use Rattle.permit.specs.Plain.{state_open, state_holding, state_closed}
use Rattle.permit.proofs.take_step.Goals as goal

pub returns-in-1 : goal.returns-in-1
unfolding taking
returns-in-1 c = rw (state_open c.args.state c.in-1.is, c.refuse.ensures) (record { answer = refl; state = refl })

pub returns-in-2 : goal.returns-in-2
unfolding taking
returns-in-2 c = rw (state_holding c.args.state c.in-2.is, c.enter.ensures) (record { answer = refl; state = refl })

pub returns-in_default : goal.returns-in_default
unfolding taking
returns-in_default c = rw (state_closed c.args.state (λ h. absurd (omega arith)) (λ h. absurd (omega arith)), c.refuse-in_default.ensures) (record { answer = refl; state = refl })
