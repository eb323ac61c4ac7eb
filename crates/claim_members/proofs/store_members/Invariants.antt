-- The invariant: so many members are read and stored, and the next is at least the floor.
use Rattle.claim_members.specs.ClaimMembers.{Listed}
use Rattle.claim_members.proofs.store_members.Given as goal

abbrev pub invariant-loop-i : goal.invariant-loop-i
invariant-loop-i l = Listed l.kinds l.entries l.bytes l.from l.count l.start l.initial.members l.i l.at l.floor l.members
