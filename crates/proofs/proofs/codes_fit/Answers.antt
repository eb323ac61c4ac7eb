use borrow.Author.Tests.{ne_eqb}
use native.Mathlib.Omega.{arith}
use mathlib.Core.Path.{◌≡◌, ap, ◌∙◌}
use mathlib.Core.Bool.{not}
use Rattle.proofs.specs.ProofLaws.{code_known, codes_none, codes_more, codes_all}
use Rattle.proofs.proofs.codes_fit.Goals as goal

pub loop-i-init : goal.loop-i-init
loop-i-init c = (omega arith, omega arith, codes_none _ _ _ _ _)

pub loop-i-preserved : goal.loop-i-preserved
loop-i-preserved c =
    let was = c.loop-i in (
      omega arith,
      omega arith,
      codes_more _ _ _ _ was.invariant.2 c.loop-i-test.true was.auto.i was.invariant.1 _ c.word_at-code.ensures
          c.if-above-code.false (code_known _ _ _ (omega arith) ∙ ap not (ne_eqb _ _ c.if-kinds-code-eq-NAME.false)),
    )

pub returns : goal.returns
returns c h =
    let e : c.loop-i.i ≡ 0 = omega arith in
    let (l, found) = codes_all _ _ _ _ (rw e at c.loop-i.invariant.2) in
    (l, record { found = found; inside = omega arith; near = omega arith })
