-- One law for each return.
use Rattle.std.proofs.Common.{ap}
use Rattle.verdict.specs.Shown.{earned}
use Rattle.claims.specs.ClaimWalk.{opens_one, opens_several, opens_none}
use Rattle.claims.proofs.opening_form.Goals as goal

pub returns-then-opens_with : goal.returns-then-opens_with
returns-then-opens_with c = ap earned (opens_one _ c.opens_with.ensures c.if-opens_with.true)

pub returns-then-opens_with-2 : goal.returns-then-opens_with-2
returns-then-opens_with-2 c = ap earned (opens_several _ c.opens_with.ensures c.if-opens_with.false c.opens_with-2.ensures c.if-opens_with-2.true)

pub returns : goal.returns
returns c = ap earned (opens_none _ c.opens_with.ensures c.if-opens_with.false c.opens_with-2.ensures c.if-opens_with-2.false)
