-- the judge is one scan of the nodes for each refusal, and its tests of leaves are exact
use Rattle.std.specs.Prelude.{◌≡◌, ℕ, length}
use Rattle.std.proofs.Common.{arith}
use Rattle.std.proofs.Math.Path.{ap}
use Rattle.formula.specs.Rule
use Rattle.formula.specs.Nodes.{Proof}
use Rattle.formula.specs.Claim.{Claim, Derivation}
use Rattle.calculus.specs.Tree.{Forest}
use Rattle.calculus.specs.Sequents.{rule}
use Rattle.calculus.specs.Rules.{Step, BackLeaf, Keeps, ax1, ax2, or, and, box, mu, nu, weaken, into_focus, out_of_focus, discharge, back, by_children, by_tree}
use Rattle.verdict.specs.Verdict.{Verdict, accepted, scan}
use Rattle.calculus.specs.View.{plain}
use Rattle.calculus.specs.ViewLaws.{quick_plain}
use Rattle.calculus.specs.Judge.{children_fit, adopted, claimed, keeps, loop, rule_number, judge_view, judge}
use Rattle.calculus.specs.Faults.{GoodLeaf}
use Rattle.verdict.specs.Tells.{Tells}
use Rattle.calculus.specs.ClimbLaws.{ancestor_path}
use Rattle.calculus.specs.LoopLaws.{loop_tells, path_good, good_path_of}

-- the judge's stages, from the last
module _ (c : Claim) (d : Derivation) where
  abbrev p : Proof
  p = d.nodes

  abbrev pub loops_stage : Verdict
  loops_stage = scan (loop (plain p)) (λ _. 39) (length p) 0 accepted

  abbrev pub rules_stage : Verdict
  rules_stage = scan (keeps c (plain p)) (rule_number (plain p)) (length p) 0 loops_stage

  abbrev pub claim_stage : Verdict
  claim_stage = scan (claimed c.entries (plain p) c.goals d.roots) (λ _. 36) (length p) 0 rules_stage

  abbrev pub orphans_stage : Verdict
  orphans_stage = scan (adopted d.roots (plain p)) (λ _. 35) (length p) 0 claim_stage

  pub judge_is : judge c d ≡ scan (children_fit d.roots (plain p)) (λ _. 35) (length p) 0 orphans_stage
  unfolding judge judge_view
  judge_is = ap (judge_view c d.roots) (quick_plain p)

-- no rule that speaks of children is a leaf's
step_no_leaf : {c : Claim} {d : Derivation} {v : ℕ} → rule d.nodes v ≡ Rule.BACK → Step c d v → ⊥
step_no_leaf b (ax1 e _) = omega arith
step_no_leaf b (ax2 e _) = omega arith
step_no_leaf b (or e _ _) = omega arith
step_no_leaf b (and e _ _ _) = omega arith
step_no_leaf b (box e _ _ _) = omega arith
step_no_leaf b (mu e _ _) = omega arith
step_no_leaf b (nu e _ _) = omega arith
step_no_leaf b (weaken e _ _) = omega arith
step_no_leaf b (into_focus e _ _ _) = omega arith
step_no_leaf b (out_of_focus e _ _ _) = omega arith
step_no_leaf b (discharge e _) = omega arith

pub keeps_back : {c : Claim} {d : Derivation} {v : ℕ} → rule d.nodes v ≡ Rule.BACK → Keeps c d v → BackLeaf c d v
keeps_back b (by_children s) = absurd (step_no_leaf b s)
keeps_back b (by_tree (back e k)) = k

-- given a tree whose nodes keep their rules, the test of a leaf tells that its loop paths are good
pub leaf_tells : (c : Claim) (d : Derivation) → Forest d.nodes → (v : ℕ) → Keeps c d v → Tells (loop (plain d.nodes) v) (GoodLeaf d.nodes v)
leaf_tells c d T v k = record {
  says = λ h b π. path_good d.nodes T v π ((loop_tells d.nodes v).says h b);
  holds = λ g. (loop_tells d.nodes v).holds (λ b. let π = ancestor_path d.nodes T (keeps_back b k).companion in good_path_of d.nodes T v π (g b π));
}
