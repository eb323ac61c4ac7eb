-- The invariant: so many goals are read and stored, each after the one before, and the starts of those and of the next are written.
use Rattle.claim_members.specs.ClaimGoals.{Gathered}
use Rattle.claim_members.proofs.goal_lists.store_goals.Given as goal

abbrev pub invariant-loop-i : goal.invariant-loop-i
invariant-loop-i l = Gathered l.kinds l.entries l.bytes l.from l.count l.initial.starts l.initial.members l.i l.at l.start l.starts l.members
