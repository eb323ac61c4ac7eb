-- what the judge goes by and what it judges, in the program's columns
use Rattle.std.specs.Prelude.{◌≡◌, List, ℕ}
use Rattle.formula.specs.Claim.{Form, Claim, Derivation}
use Rattle.formula.specs.Held.{held_claim, held_proof}
use Rattle.formula.specs.declared.NodeColumns.{NodeColumns}
use Rattle.sequents.specs.declared.numbered.NumberedTable.{NumberedTable}
use Rattle.goals.specs.declared.columns.GoalColumns.{GoalColumns}
use Rattle.tree.specs.Owners.{OwnedBy}
use Rattle.spans.specs.declared.Owners.{Owners}
use Rattle.rules.specs.JudgeStages.{Laid, TreeReady}

abbrev pub LaidIn : NumberedTable → NodeColumns → Type 0
LaidIn t p = Laid t.columns.kinds.now t.columns.a.now t.columns.b.now t.columns.count p.tree.rules.now p.tree.links.now p.starts.now p.codes.now p.tree.nodes

-- with the numbers that tell the ancestors
abbrev pub ReadyIn : NumberedTable → NodeColumns → List ℕ → List ℕ → Type 0
ReadyIn t p entries exits =
    TreeReady t.columns.kinds.now t.columns.a.now t.columns.b.now t.canon.now t.columns.count p.tree.rules.now p.tree.links.now p.starts.now p.codes.now p.tree.nodes entries exits

-- the owners are those of the nodes
abbrev pub OwnedIn : NodeColumns → Owners → Type 0
OwnedIn p o = (o.nodes ≡ p.tree.nodes) × OwnedBy p.tree.rules.now p.tree.links.now p.tree.nodes p.tree.nodes o.table.now

-- a claim of k goals over the table
abbrev pub claim_over : NumberedTable → Form → List ℕ → List ℕ → ℕ → Claim
claim_over t f gs ms k = held_claim f t.columns.kinds.now t.columns.a.now t.columns.b.now t.columns.count gs ms k

abbrev pub derivation_in : NodeColumns → GoalColumns → Derivation
derivation_in p g = held_proof p.tree.rules.now p.tree.links.now p.starts.now p.codes.now p.tree.nodes g.roots.now g.count
