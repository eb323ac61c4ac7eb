-- The last arm is left to the kinds below 4 and to numbers past the last kind.
use mathlib.Core.Logic.{inl, inr}
use native.Mathlib.Omega.{arith}
use Rattle.conditions.specs.Judge.{free_row}
use Rattle.scopes.specs.RowMarks.{free_joins, made_leaf, made_two, made_name, free_step, free_fix}
use Rattle.scopes.proofs.entry.free_names.Goals as goal
use Rattle.scopes.proofs.entry.free_names.Goals.{in_default-via-then-kind-lt4, in_default-via-else-kind-lt4+else-kind-lt6+else-kind-lt8+else-kind-lt10}

pub returns-in-10 : goal.returns-in-10
returns-in-10 c = let given = c.args in made_name free_row free_joins given.kind given.first given.e given.x given.y _ c.in-10.is c.only.ensures

pub returns-in-4 : goal.returns-in-4
returns-in-4 c =
    let given = c.args in
    made_two free_row free_joins given.kind given.first given.e given.x given.y _ (omega arith) (omega arith) c.union.ensures

pub returns-in-6 : goal.returns-in-6
returns-in-6 c = let given = c.args in free_step given.kind given.first given.e given.x given.y (omega arith) (omega arith)

pub returns-in-8 : goal.returns-in-8
returns-in-8 c =
    let given = c.args in
    free_fix given.kind given.first given.e given.x given.y (omega arith) (omega arith) _ _ c.only-in-8.ensures c.less.ensures

pub returns-in_default : goal.returns-in_default
returns-in_default c =
    let given = c.args in
    made_leaf free_row free_joins given.kind given.first given.e given.x given.y _
    (elim c.in_default.branch [
      | in_default-via-then-kind-lt4 w ↦ inl (omega arith)
      | in_default-via-else-kind-lt4+else-kind-lt6+else-kind-lt8+else-kind-lt10 w ↦ inr (omega arith)
    ])
    c.none.ensures
