-- 36, then the rules
use mathlib.Core.Path.{◌≡◌, sym, ap, ◌∙◌}
use native.Mathlib.Omega.{arith}
use lib.ListN.{take}
use Rattle.verdict.specs.Shown.{shown}
use Rattle.formula.specs.Claim.{Form}
use Rattle.formula.specs.Plain.{table_of_length}
use Rattle.formula.specs.Columned.{nodes}
use Rattle.sequents.specs.Columned.{numbered}
use Rattle.goals.specs.Goals.{goals_judged}
use Rattle.goals.specs.Columned.{claim_in}
use Rattle.principal_rules.specs.Judged.{placed}
use Rattle.rules.specs.JudgeStages.{goals_bad, goals_good}
use Rattle.rules.specs.Columned.{derivation_in}
use Rattle.verdict.proofs.PassedOn.{passed_on}
use Rattle.rules.proofs.judge.judge_tree.Goals as goal
use Rattle.rules.proofs.judge.judge_tree.Goals.{After-judge_goals}

-- what 36 says of the goals, whose members and the nodes' codes name entries of the table
goals_told : (c : After-judge_goals) → let a = c.args in (f : Form)
    → shown c.judge_goals.result ≡ goals_judged (claim_in f (numbered a.table.now) a.goals.now) (take a.goals.now.count a.goals.now.roots.now) (nodes a.proof.now)
goals_told c f =
    let J = c.requires.judged.0 in
    let G = c.requires.judged.1 in
    let columns = c.args.table.now.columns in
    let long = table_of_length columns.kinds.now columns.a.now columns.b.now columns.count in
    c.judge_goals.ensures _
    (record {
      numbers = J.numbers;
      members = λ i h e m. omega (arith, G.placed.inside i h e m, long);
      codes = λ v h x m. (J.members v h x m).inside;
    }) f _ _

pub judge_goals-requires : goal.judge_goals-requires
judge_goals-requires c =
    let J = c.requires.judged.0 in
    let G = c.requires.judged.1 in
    record {
      goals = record {
        placed = record { held = G.placed.held; inside = λ i h e m. omega (arith, G.placed.inside i h e m, J.entries) };
        roots = G.roots;
      };
      by_index = λ v h. placed J v h;
    }

pub judge_rules-requires : goal.judge_rules-requires
judge_rules-requires c = record { judged = c.requires.judged.0; owned = c.requires.owned }

pub returns : goal.returns
returns c f =
    let a = c.args in
    c.judge_rules.ensures f _ _ _
    ∙ sym (goals_good (claim_in f (numbered a.table.now) a.goals.now) (derivation_in a.proof.now a.goals.now)
    (sym (goals_told (goal.at.returns c).After-judge_goals f) ∙ ap shown c.in_ok-judge_goals.was))

pub returns-in_err-judge_goals : goal.returns-in_err-judge_goals
returns-in_err-judge_goals c f =
    let a = c.args in
    rw (passed_on _ c.from_residual.ensures.1) (sym (goals_bad (claim_in f (numbered a.table.now) a.goals.now) (derivation_in a.proof.now a.goals.now)
    (sym (goals_told (goal.at.returns-in_err-judge_goals c).After-judge_goals f) ∙ ap shown c.in_err-judge_goals.was)))
