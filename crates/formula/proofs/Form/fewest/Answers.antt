use mathlib.Core.Path.{sym, ap}
use Rattle.formula.specs.Claim as claims
use Rattle.formula.specs.NamedForm.{names_several, names_one}
use Rattle.formula.proofs.Form.fewest.Goals as goal

pub returns-then-form-eq-CLM2 : goal.returns-then-form-eq-CLM2
returns-then-form-eq-CLM2 c = sym (ap claims.fewest (names_several c.if-form-eq-CLM2.true))

pub returns : goal.returns
returns c = sym (ap claims.fewest (names_one c.if-form-eq-CLM2.false))
