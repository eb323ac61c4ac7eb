-- The number of CLM2 wants a root for each goal, and any other none.
use native.Mathlib.Omega.{arith}
use mathlib.Core.Path.{◌≡◌, ap, sym, ◌∙◌}
use Prim.Native.Nat.{◌≤◌}
use borrow.Author.Tests.{eq-eqb, ne_eqb}
use lib.ListN.{length}
use Rattle.formula.specs.Claim.{Form}
use Rattle.formula.specs.NamedForm.{named_form, names_several, names_one}
use Rattle.writing.specs.Goals.{root_count}
use Rattle.vetting.specs.StepLaws.{finds_stop, finds_as}
use Rattle.vetting.specs.RootLaws.{roots_unfit, roots_fit_lem}
use Rattle.vetting.proofs.judge_rooted.Goals as goal
use Rattle.vetting.proofs.judge_rooted.Goals.{Joined-form-eq-CLM2, then-form-eq-CLM2, else-form-eq-CLM2}

wanted : (c : Joined-form-eq-CLM2) → (c.if-form-eq-CLM2.wanted ≡ root_count (named_form c.args.form) c.args.goals) × (c.if-form-eq-CLM2.wanted ≤ 16)
wanted c =
    elim c.if-form-eq-CLM2.branch [
      | then-form-eq-CLM2 w ↦ (w.wanted-is ∙ sym (ap (λ (f : Form). root_count f c.args.goals) (names_several w.if-form-eq-CLM2.true)), omega arith)
      | else-form-eq-CLM2 w ↦ (w.wanted-is ∙ sym (ap (λ (f : Form). root_count f c.args.goals) (names_one w.if-form-eq-CLM2.false)), omega arith)
    ]

pub returns-then-roots-wanted : goal.returns-then-roots-wanted
returns-then-roots-wanted c =
    let w = wanted (goal.at.returns-then-roots-wanted c).Joined-form-eq-CLM2 in
    finds_stop (roots_unfit _ c.args.goals _ c.args.roots.now 6 (ne_eqb (length c.args.roots.now) _ (λ k. c.if-roots-wanted.true (k ∙ sym w.0)))) c.at.ensures

pub returns : goal.returns
returns c =
    let w = wanted (goal.at.returns c).Joined-form-eq-CLM2 in
    finds_as (roots_fit_lem _ c.args.goals _ c.args.roots.now 6 (eq-eqb (length c.args.roots.now) _ (c.if-roots-wanted.false ∙ w.0))) (omega arith) c.judge_roots.ensures
