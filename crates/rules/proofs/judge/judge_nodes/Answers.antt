use mathlib.Core.Path.{sym, ◌∙◌}
use native.Mathlib.Omega.{arith}
use borrow.Author.Count.{below_more}
use Rattle.rules.specs.JudgeStages.{rules_fail, rules_pass}
use Rattle.rules.proofs.judge.judge_nodes.Goals as goal

pub loop-v-init : goal.loop-v-init
loop-v-init c f gs ms k w h = absurd (omega arith)

pub returns-then-not-node_keeps : goal.returns-then-not-node_keeps
returns-then-not-node_keeps c f gs ms k =
    sym (rules_fail c.requires.judged _ _ _ c.refusal_of.ensures.0 c.refusal_of.ensures.1 c.loop-v-test.true (c.loop-v.invariant f gs ms k)
    (sym (c.node_keeps.ensures f gs ms k) ∙ c.if-not-node_keeps.true))

pub loop-v-preserved : goal.loop-v-preserved
loop-v-preserved c f gs ms k = below_more _ _ (c.loop-v.invariant f gs ms k) (sym (c.node_keeps.ensures f gs ms k) ∙ c.if-not-node_keeps.false)

pub returns : goal.returns
returns c f gs ms k = sym (rules_pass c.requires.judged _ _ c.loop-v-test.false (c.loop-v.invariant f gs ms k))
