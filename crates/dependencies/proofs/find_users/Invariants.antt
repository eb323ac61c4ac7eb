-- the entries below e are entered
use Rattle.dependencies.specs.Users.{UsersBelow}
use Rattle.dependencies.proofs.find_users.Given as goal

abbrev pub invariant-loop-e : goal.invariant-loop-e
invariant-loop-e l = UsersBelow l.claim.kinds.now l.claim.a.now l.claim.b.now l.e l.users
