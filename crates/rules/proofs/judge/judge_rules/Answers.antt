-- 37 and 38, and if no node earns one, 39
use mathlib.Core.Path.{sym, ◌∙◌}
use mathlib.Core.List.{[]}
use native.Mathlib.Omega.{arith}
use Rattle.formula.specs.Claim.{clm1}
use Rattle.formula.specs.Columned.{nodes}
use Rattle.formula.specs.PlainNodes.{proof_of_length}
use Rattle.rules.specs.JudgeStages.{rules_linked, nodes_passed, nodes_refused}
use Rattle.rules.specs.Columned.{claim_over}
use Rattle.verdict.proofs.PassedOn.{passed_on}
use Rattle.rules.proofs.judge.judge_rules.Goals as goal

pub fill_spans-requires : goal.fill_spans-requires
fill_spans-requires c = rw c.requires.owned.0.0 c.requires.owned.1

pub judge_nodes-requires : goal.judge_nodes-requires
judge_nodes-requires c =
    let told = rw c.requires.owned.0.0 at c.fill_spans.ensures in
    record {
      judged = c.requires.judged;
      room = (omega (arith, c.requires.owned.1.room), omega (arith, c.requires.owned.1.room));
      told = told _ (proof_of_length _ _ _ _ _) (c.requires.owned.0.1 _ _);
    }

pub judge_loops-requires : goal.judge_loops-requires
judge_loops-requires c =
    let a = c.args in
    let J = c.requires.judged in
    record {
      tabled = record {
        same = c.requires.owned.0.0;
        room = (omega (arith, c.requires.owned.1.room), omega (arith, c.requires.owned.1.room));
        within = λ v h. (J.rising v h).1;
      };
      linked = (
        c.requires.owned.0.1 _ _,
        rules_linked (claim_over a.table.now clm1 [] [] 0) (nodes a.proof.now) (sym (c.in_ok-judge_nodes.ensures clm1 [] [] 0)),
      );
    }

pub returns : goal.returns
returns c f gs ms k =
    let a = c.args in
    c.judge_loops.ensures ∙ sym (nodes_passed (claim_over a.table.now f gs ms k) (nodes a.proof.now) (sym (c.in_ok-judge_nodes.ensures f gs ms k)))

pub returns-in_err-judge_nodes : goal.returns-in_err-judge_nodes
returns-in_err-judge_nodes c f gs ms k =
    let a = c.args in
    rw (passed_on _ c.from_residual.ensures.1) (sym (nodes_refused (claim_over a.table.now f gs ms k) (nodes a.proof.now) (sym (c.in_err-judge_nodes.ensures f gs ms k))))
