use native.Mathlib.Omega.{arith}
use lib.ListN.{length-set}
use Rattle.verdict.proofs.PassedOn.{passed_on}
use Rattle.claim_members.specs.ClaimGoals.{none_gathered, gathering_stops, one_gathered, all_gathered}
use Rattle.claim_members.proofs.goal_lists.store_goals.Goals as goal

pub loop-i-init : goal.loop-i-init
loop-i-init c = none_gathered _ _ _ _ _ c.args.starts.now _ c.requires.starts_len.0 c.requires.in_file.0.within

pub returns-in_err-listed : goal.returns-in_err-listed
returns-in_err-listed c =
    rw (passed_on _ c.from_residual.ensures.1) (gathering_stops _ _ _ _ _ c.loop-i.invariant c.loop-i-test.true c.in_err-listed.ensures)

pub loop-i-preserved : goal.loop-i-preserved
loop-i-preserved c =
    one_gathered _ _ _ _ _ c.loop-i.invariant c.loop-i-test.true
    c.requires.in_file.1 (simp length-set c.requires.starts_len.0)
    c.requires.starts_len.1
    c.in_ok-listed.ensures

pub returns : goal.returns
returns c = all_gathered _ _ _ _ _ c.loop-i.invariant (omega arith) c.loop-i-test.false c.requires.in_file.1 c.requires.starts_len.1
