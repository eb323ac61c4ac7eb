-- After some turns the goals from the next on are left, and their members from the start on.
use Rattle.laying.specs.Laying.{Left}
use Rattle.laying.specs.Goals.{goals_left, MembersLeft}
use Rattle.laying.proofs.put_goals.Given as goal

abbrev pub invariant-loop-count : goal.invariant-loop-count
invariant-loop-count l =
    MembersLeft l.counts l.members l.count-index l.start × Left (goals_left l.counts l.members 0 0) l.from l.initial.out (goals_left l.counts l.members l.count-index l.start) l.at l.out
