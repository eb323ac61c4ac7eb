use native.Mathlib.Omega.{arith}
use Rattle.formula.specs.Fields.{link_width_le}
use Rattle.formula.proofs.Rule.link_width.Goals as goal

pub returns : goal.returns
returns c = (c.field_sum.ensures.value, omega (arith, c.field_sum.ensures.value, link_width_le c.args.rule))
