-- `judge_half` meets its contract: the opening first, and then the check.
use mathlib.Core.Path.{◌≡◌, refl, sym, ◌∙◌}
use mathlib.Core.Bool.{true, false}
use mathlib.Core.List.{List}
use Prim.Native.Nat.{ℕ}
use Rattle.encoding.specs.Opening.{opens}
use Rattle.formula.specs.Claim.{clm1}
use Rattle.claim_files.specs.ClaimFile.{claim_opening}
use Rattle.verdict.specs.Verdict.{refused}
use Rattle.demands.specs.Check.{verdict}
use Rattle.demands.specs.Join.{half_verdict}
use Rattle.joiner.proofs.judge_half.Goals as goal

module _ (claim proof : List ℕ) where
  closed : opens (claim_opening clm1) claim ≡ false → refused 10 0 ≡ half_verdict claim proof
  unfolding half_verdict
  closed h = rw h refl

  opened : opens (claim_opening clm1) claim ≡ true → verdict claim proof ≡ half_verdict claim proof
  unfolding half_verdict
  opened h = rw h refl

pub returns-then-not-opens_with : goal.returns-then-not-opens_with
returns-then-not-opens_with c = rw c.at.ensures (closed _ _ (sym c.opens_with.ensures ∙ c.if-not-opens_with.true))

pub returns : goal.returns
returns c = c.judge_files.ensures ∙ opened _ _ (sym c.opens_with.ensures ∙ c.if-not-opens_with.false)
