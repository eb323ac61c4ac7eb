-- A number is read, then tested as a member.
use Rattle.std.proofs.Common.{ap}
use Rattle.std.specs.Prelude.{not}
use Rattle.verdict.proofs.PassedOn.{passed_on}
use Rattle.claim_members.specs.ClaimMembers.{member_cut, member_unfit, member_whole}
use Rattle.claim_members.proofs.member_at.Goals as goal

pub returns-in_err-member : goal.returns-in_err-member
returns-in_err-member c = rw (passed_on _ c.from_residual.ensures.1) (member_cut _ _ _ _ _ c.in_err-member.ensures)

pub returns-then-not-may_follow : goal.returns-then-not-may_follow
returns-then-not-may_follow c =
    rw c.at.ensures (member_unfit _ _ _ _ _ c.in_ok-member.ensures c.may_follow.ensures (ap not c.if-not-may_follow.true))

pub returns : goal.returns
returns c = member_whole _ _ _ _ _ c.in_ok-member.ensures c.may_follow.ensures (ap not c.if-not-may_follow.false)
