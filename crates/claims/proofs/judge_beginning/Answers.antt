-- One law for each way to be refused: opening, count, first entry.
use native.Mathlib.Omega.{arith}
use mathlib.Core.Path.{refl}
use Rattle.verdict.proofs.Earned.{earned_none}
use Rattle.verdict.proofs.PassedOn.{passed_on}
use Rattle.claims.specs.ClaimWalk.{claim_opened, claim_long}
use Rattle.claims.specs.ClaimBeginning.{begun_closed, begun_uncounted, begun_empty, begun_cut, begun_passed}
use Rattle.claims.proofs.OpeningForm.{form_known}
use Rattle.claims.proofs.judge_beginning.Goals as goal

pub returns-in_default : goal.returns-in_default
returns-in_default c = rw c.at.ensures (begun_closed _ refl (earned_none c.in_default.ensures))

pub count_at-requires : goal.count_at-requires
count_at-requires c =
    let (e, some) = form_known c.in-Some.ensures in
    record { within = claim_long _ (claim_opened _ e some); low = omega arith }

pub returns-in_err-count : goal.returns-in_err-count
returns-in_err-count c =
    let (e, some) = form_known c.in-Some.ensures in
    rw (passed_on _ c.from_residual.ensures.1) (begun_uncounted _ e some c.fewest.ensures c.in_err-count.ensures)

pub returns-then-count-eq0 : goal.returns-then-count-eq0
returns-then-count-eq0 c =
    let (e, some) = form_known c.in-Some.ensures in
    begun_empty _ e some c.fewest.ensures c.in_ok-count.ensures c.if-count-eq0.true

pub returns-in_err-entry_at : goal.returns-in_err-entry_at
returns-in_err-entry_at c =
    let (e, some) = form_known c.in-Some.ensures in
    rw (passed_on _ c.from_residual-in_err-entry_at.ensures.1)
    (begun_cut _ e some c.fewest.ensures c.in_ok-count.ensures c.if-count-eq0.false
    c.in_err-entry_at.ensures)

pub returns : goal.returns
returns c =
    let (e, some) = form_known c.in-Some.ensures in
    begun_passed _ e some c.fewest.ensures c.in_ok-count.ensures c.if-count-eq0.false
    c.in_ok-entry_at.ensures.reached.found
