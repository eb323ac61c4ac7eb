-- The count is read, then as many goals are walked over.
use Rattle.verdict.proofs.PassedOn.{passed_on}
use Rattle.claim_members.specs.ClaimGoals.{goals_cut, goals_place, goals_tell}
use Rattle.claim_members.proofs.goal_lists.read_goals.Goals as goal

pub store_goals-requires : goal.store_goals-requires
store_goals-requires c =
    let given = c.requires in
    record { starts_len = given.starts_len; in_file = goals_place _ _ _ given.in_file c.in_ok-count.ensures }

pub returns-in_err-count : goal.returns-in_err-count
returns-in_err-count c = rw (passed_on _ c.from_residual.ensures.1) (goals_cut _ _ _ _ _ c.in_err-count.ensures)

pub returns : goal.returns
returns c =
    goals_tell _ _ _ _ _
    c.in_ok-count.ensures
    c.requires.in_file _ c.store_goals.result c.store_goals.ensures
