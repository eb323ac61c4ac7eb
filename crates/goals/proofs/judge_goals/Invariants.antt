-- before goal i, the goals before it are stated at their roots
use Rattle.formula.specs.Table.{Table}
use Rattle.goals.specs.Columned.{OverIn}
use Rattle.goals.specs.GoalStages.{Stated}
use Rattle.goals.proofs.judge_goals.Given as goal

abbrev pub invariant-loop-i : goal.invariant-loop-i
invariant-loop-i l =
    (t : Table) → OverIn t l.table l.goals l.starts l.codes l.nodes → Stated t l.goals.bounds.now l.goals.members.now l.goals.roots.now l.starts l.codes l.nodes l.i
