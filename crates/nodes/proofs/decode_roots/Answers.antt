-- The number of CLM2 has the roots copied, and any other has the only root stored, which is 0.
use native.Mathlib.Omega.{arith}
use Rattle.formula.specs.NamedForm.{names_several, for_named}
use Rattle.nodes.specs.RootsStored.{RootsStored, several_stored}
use Rattle.nodes.proofs.decode_roots.Goals as goal

pub returns-then-form-eq-CLM2 : goal.returns-then-form-eq-CLM2
returns-then-form-eq-CLM2 c =
    let few = c.requires.1.few in
    for_named (λ f. RootsStored f c.args.goals c.args.bytes.now c.args.roots.now _)
    (rw (names_several c.if-form-eq-CLM2.true) (several_stored _ _ _ (omega arith) c.copy_words.ensures))
