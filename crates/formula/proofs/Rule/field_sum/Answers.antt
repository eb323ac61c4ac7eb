-- Four fields, each by whether the rule has it.
use native.Mathlib.Omega.{arith}
use Rattle.formula.proofs.Rule.field_sum.Goals as goal

pub returns : goal.returns
returns c = record { value = cc; upper_bound = omega arith }
