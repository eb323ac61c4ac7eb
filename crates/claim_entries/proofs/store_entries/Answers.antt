use native.Mathlib.Omega.{arith}
use Rattle.verdict.proofs.PassedOn.{passed_on}
use Rattle.claim_entries.specs.ClaimEntries.{none_entered, entering_stops, one_entered, all_entered}
use Rattle.claim_entries.proofs.store_entries.Goals as goal

pub loop-i-init : goal.loop-i-init
loop-i-init c = none_entered _ _ _ _ _ _ c.requires.in_file.0.within

pub returns-in_err-entry : goal.returns-in_err-entry
returns-in_err-entry c =
    rw (passed_on _ c.from_residual.ensures.1) (entering_stops _ _ _ _ _ _ c.loop-i.invariant c.loop-i-test.true c.in_err-entry.ensures)

pub loop-i-preserved : goal.loop-i-preserved
loop-i-preserved c =
    one_entered _ _ _ _ _ _ c.loop-i.invariant c.loop-i-test.true
    c.requires.in_file.1 c.requires.entry_arrays
    c.in_ok-entry.ensures

pub returns : goal.returns
returns c = all_entered _ _ _ _ _ _ c.loop-i.invariant (omega arith) c.loop-i-test.false c.requires.in_file.1
