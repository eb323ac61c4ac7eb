-- The last arm is left to the kinds below 4, to boxes and diamonds, and to numbers past the last kind.
use mathlib.Core.Logic.{inl, inr}
use native.Mathlib.Omega.{arith}
use Rattle.conditions.specs.Judge.{open_row}
use Rattle.scopes.specs.RowMarks.{open_joins, made_leaf, made_two, made_name, open_step, open_fix}
use Rattle.scopes.proofs.entry.open_names.Goals as goal
use Rattle.scopes.proofs.entry.open_names.Goals.{in_default-via-then-kind-lt4, in_default-via-else-kind-lt4+else-kind-lt6+then-kind-lt8, in_default-via-else-kind-lt4+else-kind-lt6+else-kind-lt8+else-kind-lt10}

pub returns-in-10 : goal.returns-in-10
returns-in-10 c = let given = c.args in made_name open_row open_joins given.kind given.first given.e given.x given.y _ c.in-10.is c.only.ensures

pub returns-in-4 : goal.returns-in-4
returns-in-4 c =
    let given = c.args in
    made_two open_row open_joins given.kind given.first given.e given.x given.y _ (omega arith) (omega arith) c.union.ensures

pub returns-in-8 : goal.returns-in-8
returns-in-8 c = let given = c.args in open_fix given.kind given.first given.e given.x given.y (omega arith) (omega arith)

pub returns-in_default : goal.returns-in_default
returns-in_default c =
    let given = c.args in
    elim c.in_default.branch [
      | in_default-via-then-kind-lt4 w ↦ made_leaf open_row open_joins given.kind given.first given.e given.x given.y _ (inl (omega arith)) c.none.ensures
      | in_default-via-else-kind-lt4+else-kind-lt6+then-kind-lt8 w ↦
          open_step given.kind given.first given.e given.x given.y (omega arith) (omega arith) _ c.none.ensures
      | in_default-via-else-kind-lt4+else-kind-lt6+else-kind-lt8+else-kind-lt10 w ↦
          made_leaf open_row open_joins given.kind given.first given.e given.x given.y _ (inr (omega arith)) c.none.ensures
    ]
