-- goals and roots in the program's columns
use Rattle.std.specs.Prelude.{List, ℕ}
use Rattle.formula.specs.Table.{Table}
use Rattle.formula.specs.Claim.{Form, Claim}
use Rattle.formula.specs.Held.{goals_of}
use Rattle.sequents.specs.declared.numbered.NumberedTable.{NumberedTable}
use Rattle.goals.specs.declared.columns.GoalColumns.{GoalColumns}
use Rattle.goals.specs.Goals.{Goals, GoalsOver}

-- over a table of n entries and m nodes
abbrev pub GoalsIn : ℕ → GoalColumns → ℕ → Type 0
GoalsIn n g m = Goals n g.bounds.now g.members.now g.count g.roots.now m

-- over a table t that the columns number
abbrev pub OverIn : Table → NumberedTable → GoalColumns → List ℕ → List ℕ → ℕ → Type 0
OverIn t table g ss cs m = GoalsOver t table.canon.now g.bounds.now g.members.now g.count ss cs m

-- the claim that they make of a table
abbrev pub claim_in : Form → Table → GoalColumns → Claim
claim_in f t g = record { form = f; entries = t; goals = goals_of g.bounds.now g.members.now g.count }
