-- the judge after the tree: refused as the first bad node is, or passed on
use Rattle.std.specs.Prelude.{◌≡◌, ℕ}
use Rattle.std.proofs.Math.Path.{refl}
use Rattle.std.proofs.Common.{◌∙◌}
use Rattle.verdict.specs.Verdict.{accepted, refused}
use Rattle.formula.specs.Claim.{Claim, Derivation}
use Rattle.calculus.specs.Judge.{judge}
use Rattle.tree.specs.Owners.{tree_judged}
use Rattle.rules.specs.JudgeStages.{judge_stages, tree_rules_judged}

-- 36 to 39 by what each stage found
module _ (c : Claim) (d : Derivation) where
  -- 35 first
  pub tree_bad : {k q : ℕ} → tree_judged d.roots d.nodes ≡ refused k q → judge c d ≡ refused k q
  tree_bad r = judge_stages c d ∙ rw r refl

  pub tree_good : tree_judged d.roots d.nodes ≡ accepted → judge c d ≡ tree_rules_judged c d
  tree_good r = judge_stages c d ∙ rw r refl
