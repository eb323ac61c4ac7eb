use native.Mathlib.Omega.{arith}
use mathlib.Core.Path.{refl, sym, ◌∙◌}
use Rattle.verdict.proofs.PassedOn.{passed_on}
use Rattle.vetting.specs.StepLaws.{finds_stop, finds_next, found_stop, found_next}
use Rattle.vetting.specs.NodeWalk.{nodes_begin, nodes_stop, nodes_on, nodes_end_lem, rule_unfit, links_unfit, node_fits}
use Rattle.vetting.proofs.judge_nodes.Goals as goal
use Rattle.vetting.proofs.judge_nodes.Goals.{then-rule-gt-BACK-via-then-rule-gt-BACK, then-rule-gt-BACK-via-else-rule-gt-BACK+then-not-links_fit}

pub loop-v-init : goal.loop-v-init
loop-v-init c = nodes_begin _ _ _ _ _ _ _

pub returns-then-rule-gt-BACK : goal.returns-then-rule-gt-BACK
returns-then-rule-gt-BACK c =
    finds_stop (elim c.then-rule-gt-BACK.branch [
      | then-rule-gt-BACK-via-then-rule-gt-BACK w ↦ rule_unfit c.loop-v.invariant c.loop-v-test.true w.if-rule-gt-BACK.true
      | then-rule-gt-BACK-via-else-rule-gt-BACK+then-not-links_fit w ↦
          links_unfit c.loop-v.invariant c.loop-v-test.true w.if-rule-gt-BACK.false (sym w.links_fit.ensures ∙ w.if-not-links_fit.true)
    ]) c.at.ensures

-- a node whose rule and links fit ends where its sequent does
pub returns-in_err-at : goal.returns-in_err-at
returns-in_err-at c =
    let fit = node_fits c.loop-v.invariant c.loop-v-test.true c.if-rule-gt-BACK.false (sym c.links_fit.ensures ∙ c.if-not-links_fit.false) in
    rw (passed_on _ c.from_residual.ensures.1)
    (finds_stop (nodes_stop c.loop-v.invariant c.loop-v-test.true (fit ∙ rw (← c.link_width.ensures.0) (found_stop c.in_err-at.ensures))) refl)

pub loop-v-preserved : goal.loop-v-preserved
loop-v-preserved c =
    let fit = node_fits c.loop-v.invariant c.loop-v-test.true c.if-rule-gt-BACK.false (sym c.links_fit.ensures ∙ c.if-not-links_fit.false) in
    nodes_on c.loop-v.invariant c.loop-v-test.true c.requires.1.codes (fit ∙ rw (← c.link_width.ensures.0) (found_next c.in_ok-at.ensures))

pub returns : goal.returns
returns c = finds_next (nodes_end_lem c.loop-v.invariant (omega arith)) (omega arith)
