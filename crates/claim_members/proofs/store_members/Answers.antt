use native.Mathlib.Omega.{arith}
use Rattle.verdict.proofs.PassedOn.{passed_on}
use Rattle.claim_members.specs.ClaimMembers.{none_listed, listing_stops, one_listed, all_listed}
use Rattle.claim_members.proofs.store_members.Goals as goal

pub loop-i-init : goal.loop-i-init
loop-i-init c = none_listed _ _ _ _ _ _ _ c.requires.in_file.0.within

pub returns-in_err-member : goal.returns-in_err-member
returns-in_err-member c =
    rw (passed_on _ c.from_residual.ensures.1) (listing_stops _ _ _ _ _ _ _ c.loop-i.invariant c.loop-i-test.true c.in_err-member.ensures)

pub loop-i-preserved : goal.loop-i-preserved
loop-i-preserved c = one_listed _ _ _ _ _ _ _ c.loop-i.invariant c.loop-i-test.true c.in_ok-member.ensures

pub returns : goal.returns
returns c = all_listed _ _ _ _ _ _ _ c.loop-i.invariant (omega arith) c.loop-i-test.false c.requires.in_file.1
