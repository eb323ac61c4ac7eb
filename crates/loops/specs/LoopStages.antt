-- a back leaf's loop path, as the code finds it
use Rattle.std.specs.Prelude.{◌≡◌, Bool, true, false, List, ℕ, ◌+◌, ◌*◌, ◌<◌, ◌≤◌, get_or}
use Rattle.std.proofs.Math.Path.{refl}
use Rattle.std.proofs.Common.{sym, ◌∙◌, arith, below_more}
use borrow.Author.Tests.{eq-eqb, ne_eqb}
use Rattle.verdict.specs.Verdict.{accepted, refused}
use Rattle.verdict.specs.ScanLaws.{Passed, scan_passes}
use Rattle.verdict.proofs.ScanLaws.{scan_fails}
use Rattle.formula.specs.Rule
use Rattle.formula.specs.Nodes.{Proof, node}
use Rattle.formula.specs.PlainNodes.{proof_of, proof_of_length, proof_of_rule, proof_of_back}
use Rattle.calculus.specs.View.{plain}
use Rattle.calculus.specs.Judge.{loop}
use Rattle.loops.specs.Paths.{clear, PathsTold, Linked, LeavesTold, LeafJudged, LeavesJudged}

module _ (rs ls ss cs : List ℕ) (n v : ℕ) (real : v < n) where
  rule_is : (node (proof_of rs ls ss cs n) v).rule ≡ get_or rs v 0
  rule_is = proof_of_rule rs ls ss cs n v real

  -- only a back leaf has a loop path
  pub no_leaf : (get_or rs v 0 ≡ Rule.BACK → ⊥) → loop (plain (proof_of rs ls ss cs n)) v ≡ true
  unfolding loop
  no_leaf h = rw (rule_is, ne_eqb (get_or rs v 0) Rule.BACK h) refl

  pub leaf_loop : (bars boxes : List ℕ) → get_or rs v 0 ≡ Rule.BACK → LeavesTold (proof_of rs ls ss cs n) bars boxes → clear bars boxes (get_or ls (4 * v + 3) 0) v ≡ loop (plain (proof_of rs ls ss cs n)) v
  unfolding loop
  leaf_loop bars boxes h T = rw (rule_is, eq-eqb (get_or rs v 0) Rule.BACK h, ← proof_of_back rs ls ss cs n v real) (T.leaf_is v (rw proof_of_length real) (rule_is ∙ h))

-- where 38 has passed, the tables of all paths tell the loop paths
pub leaves_told : (p : Proof) (bars boxes : List ℕ) → Linked p → PathsTold p bars boxes → LeavesTold p bars boxes
leaves_told p bars boxes L T = record { leaf_is = λ v h e. T.path_is (node p v).back v h (L v h e) }

-- the paths of all leaves below v are good
abbrev pub GoodBelow : List ℕ → List ℕ → ℕ → List ℕ → List ℕ → ℕ → Type 0
GoodBelow rs ls n bars boxes v = (ss cs : List ℕ) → LeavesTold (proof_of rs ls ss cs n) bars boxes → Passed (loop (plain (proof_of rs ls ss cs n))) v

module _ (rs ls : List ℕ) (n : ℕ) (bars boxes : List ℕ) (v : ℕ) (f : GoodBelow rs ls n bars boxes v) where
  pub all_good : n ≤ v → LeavesJudged rs ls n bars boxes accepted
  all_good h ss cs T = sym (scan_passes _ (λ _. 39) _ accepted (λ w l. f ss cs T w (omega (arith, proof_of_length rs ls ss cs n))))

  module _ (real : v < n) (x : Bool) (here : LeafJudged rs ls bars boxes v x) where
    pub good_more : x ≡ true → GoodBelow rs ls n bars boxes (v + 1)
    good_more e ss cs T = below_more (λ w. loop (plain (proof_of rs ls ss cs n)) w ≡ true) v (f ss cs T) (sym (here ss cs n real T) ∙ e)

    pub first_bad : x ≡ false → LeavesJudged rs ls n bars boxes (refused 39 v)
    first_bad e ss cs T = sym (scan_fails _ (λ _. 39) _ accepted v (omega (arith, proof_of_length rs ls ss cs n)) (f ss cs T) (sym (here ss cs n real T) ∙ e))
