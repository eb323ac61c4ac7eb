-- The arm is a range of kinds.
use mathlib.Core.Path.{sym}
use mathlib.Core.Logic.{inl, inr}
use native.Mathlib.Omega.{arith}
use Rattle.operands.specs.OperandBounds.{far_step_lem, far_other}
use Rattle.operands.proofs.acts_far.Goals as goal

pub returns-in-6 : goal.returns-in-6
returns-in-6 c = let given = c.args in sym (far_step_lem given.kind given.first given.action (omega arith) (omega arith))

pub returns-in_default : goal.returns-in_default
returns-in_default c = let given = c.args in sym (far_other given.kind given.first given.action (inl (omega arith)))

pub returns-in_default-2 : goal.returns-in_default-2
returns-in_default-2 c = let given = c.args in sym (far_other given.kind given.first given.action (inr (omega arith)))
