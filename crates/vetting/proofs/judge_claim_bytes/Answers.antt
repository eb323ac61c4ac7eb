-- The count, the entries, then the goals of the form.
use native.Mathlib.Omega.{arith}
use mathlib.Core.Path.{◌≡◌, ap, ◌∙◌}
use Rattle.formula.specs.Claim.{Form}
use Rattle.formula.specs.Plain.{table_of}
use Rattle.proof_files.specs.ProofParts.{kind_table}
use Rattle.formula.specs.NamedForm.{named_form, names_several, names_one}
use Rattle.writing.specs.GoalEnds.{goals_end}
use Rattle.writing.specs.ClaimEnds.{claim_end}
use Rattle.vetting.specs.StepLaws.{finds_as, found_next, goes_on}
use Rattle.vetting.specs.CountLaws.{claim_in}
use Rattle.vetting.specs.KindTests.{goals_by_kinds}
use Rattle.vetting.proofs.judge_claim_bytes.Goals as goal
use Rattle.vetting.proofs.judge_claim_bytes.Goals.{In_ok-at}

-- past the entries the goals are walked over, by the kinds alone
walked : (c : In_ok-at) (f : Form) → named_form c.args.form ≡ f
    → claim_end (named_form c.args.form) c.args.count (table_of c.args.kinds.now c.args.a.now c.args.b.now c.args.count) c.args.sizes.now c.args.members.now
    ≡ goals_end f (kind_table c.args.kinds.now c.args.count) c.args.sizes.now c.args.members.now c.in_ok-at.at
walked c f named =
    let s = c.args in
    let form = named_form s.form in
    let low = c.wide.ensures ∙ c.fewest.ensures in
    claim_in form s.count (table_of s.kinds.now s.a.now s.b.now s.count) s.sizes.now s.members.now (omega (arith, low), omega arith)
    ∙ goes_on _ (found_next c.in_ok-at.ensures)
    ∙ goals_by_kinds form s.kinds.now s.a.now s.b.now s.count s.sizes.now s.members.now c.in_ok-at.at
    ∙ ap (λ (g : Form). goals_end g (kind_table s.kinds.now s.count) s.sizes.now s.members.now c.in_ok-at.at) named

pub returns-then-form-eq-CLM2 : goal.returns-then-form-eq-CLM2
returns-then-form-eq-CLM2 c = finds_as (walked (goal.at.returns-then-form-eq-CLM2 c).In_ok-at _ (names_several c.if-form-eq-CLM2.true)) (omega arith) c.judge_goals.ensures

pub returns-else-form-eq-CLM2 : goal.returns-else-form-eq-CLM2
returns-else-form-eq-CLM2 c = finds_as (walked (goal.at.returns-else-form-eq-CLM2 c).In_ok-at _ (names_one c.if-form-eq-CLM2.false)) (omega arith) c.judge_goal.ensures
