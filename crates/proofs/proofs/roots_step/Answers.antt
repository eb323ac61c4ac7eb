-- The number of CLM2 has the roots walked over, and any other has them known.
use native.Mathlib.Omega.{arith}
use Rattle.formula.specs.NamedForm.{names_several, names_one}
use Rattle.proofs.specs.ProofLaws.{roots_known, roots_written}
use Rattle.proofs.specs.ProofSteps.{finds_as}
use Rattle.proofs.proofs.roots_step.Goals as goal

pub returns-then-form-eq-CLM2 : goal.returns-then-form-eq-CLM2
returns-then-form-eq-CLM2 c = rw (names_several c.if-form-eq-CLM2.true) (finds_as _ c.roots_walk.result (roots_written _ _ _) (omega arith) c.roots_walk.ensures)

pub returns : goal.returns
returns c = rw (names_one c.if-form-eq-CLM2.false) (_, record { found = roots_known _ _ c.args.bytes.now; inside = omega arith; near = omega arith })
