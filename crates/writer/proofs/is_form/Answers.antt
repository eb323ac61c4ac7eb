-- Each test is one of the two.
use mathlib.Core.Path.{refl}
use borrow.Author.Tests.{eq-eqb, ne_eqb}
use Rattle.formula.specs.Claim.{clm1, form_number}
use Rattle.writer.proofs.is_form.Goals as goal

pub returns-then-form-eq-CLM1 : goal.returns-then-form-eq-CLM1
returns-then-form-eq-CLM1 c = rw (eq-eqb c.args.form (form_number clm1) c.if-form-eq-CLM1.true) refl

pub returns-else-form-eq-CLM1 : goal.returns-else-form-eq-CLM1
returns-else-form-eq-CLM1 c = rw (ne_eqb c.args.form (form_number clm1) c.if-form-eq-CLM1.false) refl
