-- before a node: every smaller one keeps its rule, whatever the claim's goals
use mathlib.Core.List.{List}
use Prim.Native.Nat.{ℕ}
use Rattle.formula.specs.Claim.{Form}
use Rattle.formula.specs.Columned.{nodes}
use Rattle.calculus.specs.View.{plain}
use Rattle.calculus.specs.Judge.{keeps}
use Rattle.verdict.specs.ScanLaws.{Passed}
use Rattle.rules.specs.Columned.{claim_over}
use Rattle.rules.proofs.judge.judge_nodes.Given as goal

abbrev pub invariant-loop-v : goal.invariant-loop-v
invariant-loop-v l =
    (f : Form) (gs ms : List ℕ) (k : ℕ) → Passed (keeps (claim_over l.table f gs ms k) (plain (nodes l.proof))) l.v
