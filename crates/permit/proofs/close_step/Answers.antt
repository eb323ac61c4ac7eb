use mathlib.Core.Path.{refl}
use native.Mathlib.Omega.{arith}
use Rattle.permit.specs.GateState.{closing}
use Rattle.permit.specs.Plain.{state_open, state_holding, state_closed}
use Rattle.permit.proofs.close_step.Goals as goal

pub returns-in-1 : goal.returns-in-1
unfolding closing
returns-in-1 c = rw (state_open c.args.state c.in-1.is, c.enter.ensures) (record { answer = refl; state = refl })

pub returns-in-2 : goal.returns-in-2
unfolding closing
returns-in-2 c = rw (state_holding c.args.state c.in-2.is, c.enter-in-2.ensures) (record { answer = refl; state = refl })

pub returns-in_default : goal.returns-in_default
unfolding closing
returns-in_default c = rw (state_closed c.args.state (λ h. absurd (omega arith)) (λ h. absurd (omega arith)), c.refuse.ensures) (record { answer = refl; state = refl })
