-- what the judge accepts is a correct proof of the claim, and such a proof is accepted
use Rattle.std.specs.Prelude.{◌≡◌, ℕ, ◌<◌, length}
use Rattle.std.proofs.Common.{◌∙◌, arith}
use Rattle.formula.specs.Claim.{Claim, Derivation}
use Rattle.calculus.specs.Tree.{Forest, Trees}
use Rattle.calculus.specs.Rules.{Keeps}
use Rattle.calculus.specs.CorrectNodes.{CorrectNodes}
use Rattle.verdict.specs.Verdict.{accepted}
use Rattle.calculus.specs.View.{plain}
use Rattle.calculus.specs.Judge.{children_fit, adopted, claimed, keeps, loop, rule_number, judge}
use Rattle.calculus.specs.Faults.{ChildrenFit}
use Rattle.calculus.specs.Goals.{Claimed}
use Rattle.calculus.specs.Given.{Given}
use Rattle.verdict.specs.VerdictLaws.{scan_says, scan_holds}
use Rattle.calculus.specs.TreeLaws.{children_fit_tells, adopted_tells, to_trees, tree_children, tree_adopted}
use Rattle.calculus.specs.GoalLaws.{claimed_nodes, claimed_roots}
use Rattle.calculus.proofs.Claimed.{claimed_tells}
use Rattle.calculus.proofs.RuleLaws.{keeps_tells}
use Rattle.calculus.specs.JudgeExact.{claim_stage, judge_is, leaf_tells, loops_stage, orphans_stage, rules_stage}

module _ (c : Claim) (d : Derivation) (G : Given c d) where
  pub accepted_correct : judge c d ≡ accepted → CorrectNodes c d × Claimed c d
  accepted_correct h =
      let (fit, h₁) = scan_says (children_fit d.roots (plain d.nodes)) (λ _. 35) (length d.nodes) 0 (orphans_stage c d) (rw (judge_is c d) at h) in
      let (adopt, h₂) = scan_says (adopted d.roots (plain d.nodes)) (λ _. 35) (length d.nodes) 0 (claim_stage c d) h₁ in
      let (r, h₃) = scan_says (claimed c.entries (plain d.nodes) c.goals d.roots) (λ _. 36) (length d.nodes) 0 (rules_stage c d) h₂ in
      let (keep, h₄) = scan_says (keeps c (plain d.nodes)) (rule_number (plain d.nodes)) (length d.nodes) 0 (loops_stage c d) h₃ in
      let (loops, _) = scan_says (loop (plain d.nodes)) (λ _. 39) (length d.nodes) 0 accepted h₄ in
      let F : ((v : ℕ) → v < length d.nodes → ChildrenFit d.roots d.nodes v) = λ v k. (children_fit_tells d.roots d.nodes v k).says (fit v (omega arith) (omega arith)) in
      let S : Trees d.roots d.nodes = to_trees d.roots d.nodes F (λ w k. (adopted_tells d.roots d.nodes w k).says (adopt w (omega arith) (omega arith))) in
      let T : Forest d.nodes = S.forest in
      let K : ((v : ℕ) → v < length d.nodes → Keeps c d v) = λ v k. (keeps_tells c d T G v k).says (keep v (omega arith) (omega arith)) in (
        record {
          members = G.members;
          tree = S;
          keeps = K;
          loops = λ l k. (leaf_tells c d T l (K l k)).says (loops l (omega arith) (omega arith));
        },
        claimed_roots c d G (λ v k. (claimed_tells c d G v k).says (r v (omega arith) (omega arith))),
      )

  pub correct_accepted : CorrectNodes c d → Claimed c d → judge c d ≡ accepted
  correct_accepted C R =
      judge_is c d
      ∙ scan_holds (children_fit d.roots (plain d.nodes)) (λ _. 35) (length d.nodes) 0 (orphans_stage c d)
      (λ w _ k. (children_fit_tells d.roots d.nodes w (omega arith)).holds (tree_children d.roots d.nodes C.tree w (omega arith)))
      ∙ scan_holds (adopted d.roots (plain d.nodes)) (λ _. 35) (length d.nodes) 0 (claim_stage c d)
      (λ w _ k. (adopted_tells d.roots d.nodes w (omega arith)).holds (tree_adopted d.roots d.nodes C.tree w (omega arith)))
      ∙ scan_holds (claimed c.entries (plain d.nodes) c.goals d.roots) (λ _. 36) (length d.nodes) 0 (rules_stage c d)
      (λ w _ k. (claimed_tells c d G w (omega arith)).holds (claimed_nodes c d G R w))
      ∙ scan_holds (keeps c (plain d.nodes)) (rule_number (plain d.nodes)) (length d.nodes) 0 (loops_stage c d) (λ w _ k. (keeps_tells c d C.tree.forest G w (omega arith)).holds (C.keeps w (omega arith)))
      ∙ scan_holds (loop (plain d.nodes)) (λ _. 39) (length d.nodes) 0 accepted (λ w _ k. (leaf_tells c d C.tree.forest w (C.keeps w (omega arith))).holds (C.loops w (omega arith)))
