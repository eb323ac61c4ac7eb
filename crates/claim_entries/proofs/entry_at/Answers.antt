-- One step law for each way to end: map and kind first, then A, then B.
use Rattle.verdict.proofs.PassedOn.{passed_on}
use Rattle.claim_entries.specs.ClaimEntry.{entry_cut, entry_unfit, entry_a_cut, entry_b_cut, entry_whole}
use Rattle.std.proofs.Common.{ap}
use Rattle.std.specs.Prelude.{not}
use Rattle.claim_entries.proofs.entry_at.Goals as goal

pub returns-then-bytes-start-lt2 : goal.returns-then-bytes-start-lt2
returns-then-bytes-start-lt2 c = rw c.at.ensures (entry_cut _ _ c.requires c.if-bytes-start-lt2.true)

pub returns-then-not-kind_fits : goal.returns-then-not-kind_fits
returns-then-not-kind_fits c =
    rw c.at-then-not-kind_fits.ensures
    (entry_unfit _ _ c.requires c.if-bytes-start-lt2.false c.kind_fits.ensures (ap not c.if-not-kind_fits.true))

pub returns-in_err-a : goal.returns-in_err-a
returns-in_err-a c =
    rw (passed_on _ c.from_residual.ensures.1)
    (entry_a_cut _ _ c.requires c.if-bytes-start-lt2.false c.kind_fits.ensures (ap not c.if-not-kind_fits.false) c.a_stands.ensures
    c.in_err-a.ensures)

pub returns-in_err-b : goal.returns-in_err-b
returns-in_err-b c =
    rw (passed_on _ c.from_residual-in_err-b.ensures.1)
    (entry_b_cut _ _ c.requires c.if-bytes-start-lt2.false c.kind_fits.ensures (ap not c.if-not-kind_fits.false) c.a_stands.ensures
    c.in_ok-a.ensures
    c.b_stands-second.ensures
    c.in_err-b.ensures)

pub returns : goal.returns
returns c =
    entry_whole _ _ c.requires c.if-bytes-start-lt2.false c.kind_fits.ensures (ap not c.if-not-kind_fits.false) c.a_stands.ensures
    c.in_ok-a.ensures
    c.b_stands-second.ensures
    c.in_ok-b.ensures
    c.held_b.ensures
