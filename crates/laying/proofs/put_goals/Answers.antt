use native.Mathlib.Omega.{arith}
use mathlib.Core.List.{List, ◌++◌}
use Prim.Native.Nat.{ℕ, ◌+◌, ◌≤◌}
use lib.ListN.{length, get_or}
use Rattle.claim_files.specs.ClaimFile.{encode_members}
use Rattle.laying.specs.Laying.{Left, less_left, none_left, room_left}
use Rattle.laying.specs.Goals.{goal_at, goals_left, goals_step, goals_end_lem, MembersLeft, members_step}
use Rattle.laying.proofs.put_goals.Goals as goal
use Rattle.laying.proofs.put_goals.Goals.{In-loop-count}

-- in a turn: this goal, and what comes after it
module _ (c : In-loop-count) where
  abbrev i : ℕ
  i = c.loop-count.count-index

  abbrev start : ℕ
  start = c.loop-count.start

  abbrev count : ℕ
  count = get_or c.args.counts.now i 0

  abbrev this : List ℕ
  this = encode_members (goal_at c.args.members.now start count)

  abbrev left : ℕ → ℕ → List ℕ
  left = goals_left c.args.counts.now c.args.members.now

  abbrev after : List ℕ
  after = left (i + 1) (start + count)

  this_left : Left (left 0 0) c.args.from c.args.out.now (this ++ after) c.loop-count.at c.loop-count.out
  this_left = rw (← (goals_step c.args.counts.now c.args.members.now i start c.loop-count-test.true)) c.loop-count.invariant.1

  enough : (start + count ≤ length c.args.members.now) × MembersLeft c.args.counts.now c.args.members.now (i + 1) (start + count)
  enough = members_step c.args.counts.now c.args.members.now i start c.loop-count-test.true c.loop-count.invariant.0

pub put_goal-at-requires : goal.put_goal-at-requires
put_goal-at-requires c =
    let t = (goal.at.put_goal-at-requires c).In-loop-count in
    (room_left (this t) (after t) (this_left t) c.requires.0, (enough t).0)

pub loop-count-preserved : goal.loop-count-preserved
loop-count-preserved c =
    let t = (goal.at.loop-count-preserved c).In-loop-count in
    rw c.wide-start.ensures ((enough t).1, less_left (this t) (after t) (this_left t) c.put_goal-at.ensures)

pub returns : goal.returns
returns c =
    let given = c.args in
    let last = c.loop-count in
    (none_left (goals_end_lem given.counts.now given.members.now last.count-index last.start (omega arith)) last.invariant.1).stored
