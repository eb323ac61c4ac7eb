-- what each stage says of the tree that the program's columns hold
use Rattle.std.specs.Prelude.{Bool, List, ℕ}
use Rattle.verdict.specs.Verdict as verdicts
use Rattle.verdict.specs.Shown.{Answer}
use Rattle.formula.specs.Nodes.{Proof}
use Rattle.formula.specs.declared.LinkColumns.{LinkColumns}
use Rattle.tree.specs.Owners.{TakenBy, OneParent, ChildrenTaken, OwnersFilled}

abbrev pub TakenIn : List ℕ → LinkColumns → ℕ → List ℕ → Type 0
TakenIn roots t v owners = TakenBy roots t.rules.now t.links.now t.nodes v owners

abbrev pub ParentJudged : List ℕ → LinkColumns → ℕ → Bool → List ℕ → Type 0
ParentJudged roots t v answer owners = OneParent roots t.rules.now t.links.now t.nodes v answer owners

abbrev pub StageTaken : (List ℕ → Proof → verdicts.Verdict) → List ℕ → LinkColumns → Answer → List ℕ → Type 0
StageTaken stage roots t answer owners = ChildrenTaken stage roots t.rules.now t.links.now t.nodes answer owners

abbrev pub Filled : List ℕ → LinkColumns → Answer → List ℕ → Type 0
Filled roots t answer owners = OwnersFilled roots t.rules.now t.links.now t.nodes answer owners
