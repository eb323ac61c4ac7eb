-- The count is read, then as many members are walked over.
use Rattle.verdict.proofs.PassedOn.{passed_on}
use Rattle.claim_members.specs.ClaimMembers.{members_cut, members_place, members_tell}
use Rattle.claim_members.proofs.read_members.Goals as goal

pub store_members-requires : goal.store_members-requires
store_members-requires c =
    let given = c.requires in
    record { members_len = given.members_len; in_file = members_place _ _ given.in_file c.in_ok-count.ensures }

pub returns-in_err-count : goal.returns-in_err-count
returns-in_err-count c = rw (passed_on _ c.from_residual.ensures.1) (members_cut _ _ _ _ c.in_err-count.ensures)

pub returns : goal.returns
returns c = members_tell _ _ _ _ c.in_ok-count.ensures _ c.store_members.result c.store_members.ensures
