-- The three tests of a member, one after the other.
use Rattle.std.proofs.Common.{rules}
use Rattle.claim_members.specs.ClaimMembers.{may_follow_lem, plain_formula}
use Rattle.claim_members.proofs.may_follow.Goals as goal

pub returns-then-member-entries : goal.returns-then-member-entries
unfolding may_follow_lem plain_formula
returns-then-member-entries c = search rules

pub returns-else-member-entries : goal.returns-else-member-entries
unfolding may_follow_lem plain_formula
returns-else-member-entries c = search rules
