-- the rule decides before the codes are looked at, by the test that the definition has
use mathlib.Core.Path.{ap, ◌∙◌}
use native.Mathlib.Omega.{arith}
use borrow.Author.Tests.{eq-eqb}
use Rattle.std.specs.Prelude.{not}
use Rattle.loop_nodes.specs.FocusLaws.{rule_bars, rule_passes}
use Rattle.loop_nodes.proofs.may_loop.Goals as goal

pub returns-then-proof-v-ne-F : goal.returns-then-proof-v-ne-F
returns-then-proof-v-ne-F c =
    (rw (c.wide-then-proof-v-ne-F.ensures, c.wide.ensures) at c.has_focus.ensures)
    ∙ rule_passes _ _ (λ is-F. omega (arith, c.if-proof-v-ne-F.true))

pub returns-else-proof-v-ne-F : goal.returns-else-proof-v-ne-F
returns-else-proof-v-ne-F c = ap not (eq-eqb _ _ c.if-proof-v-ne-F.false) ∙ rule_bars _ _ (omega (arith, c.if-proof-v-ne-F.false))
