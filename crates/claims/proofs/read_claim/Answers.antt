-- One law for each way to end: opening, entries, goals, bytes that follow, acceptance.
use native.Mathlib.Omega.{arith}
use mathlib.Core.Path.{refl}
use Rattle.verdict.proofs.Earned.{earned_none}
use Rattle.verdict.proofs.PassedOn.{passed_on}
use Rattle.claims.specs.ClaimWalk.{claim_refused, claim_closed, claim_opened, claim_long, claim_no_entries, claim_no_goals, claim_follows, claim_got, Opened}
use Rattle.claims.proofs.OpeningForm.{form_known}
use Rattle.claims.proofs.read_claim.Goals as goal
use Rattle.claims.proofs.read_claim.Goals.{In-Some}

-- the form is the one that the file is read in
opened : (c : In-Some) → Opened c.args.bytes.now c.in-Some.form
opened c = let (e, some) = form_known c.in-Some.ensures in claim_opened _ e some

pub returns-in_default : goal.returns-in_default
returns-in_default c = rw c.at.ensures (claim_refused (omega arith, omega arith) (claim_closed _ refl (earned_none c.in_default.ensures)))

pub read_entries-requires : goal.read_entries-requires
read_entries-requires c = record { entry_arrays = c.requires.entries; in_bounds = claim_long _ (opened (goal.at.read_entries-requires c).In-Some) }

pub returns-in_err-entries : goal.returns-in_err-entries
returns-in_err-entries c =
    rw (passed_on _ c.from_residual.ensures.1)
    (claim_refused (omega arith, omega arith)
    (claim_no_entries _ (opened (goal.at.returns-in_err-entries c).In-Some) c.fewest.ensures c.in_err-entries.ensures))

pub returns-in_err-goals : goal.returns-in_err-goals
returns-in_err-goals c =
    rw (passed_on _ c.from_residual-in_err-goals.ensures.1)
    (claim_refused (omega arith, omega arith)
    (claim_no_goals _ (opened (goal.at.returns-in_err-goals c).In-Some) c.fewest.ensures c.in_ok-entries.ensures c.in_err-goals.ensures))

pub returns-then-goals-bytes : goal.returns-then-goals-bytes
returns-then-goals-bytes c =
    rw c.at-then-goals-bytes.ensures
    (claim_refused (omega arith, omega (arith, c.in_ok-goals.ensures.reached.near))
    (claim_follows _ (opened (goal.at.returns-then-goals-bytes c).In-Some) c.fewest.ensures c.in_ok-entries.ensures c.in_ok-goals.ensures c.if-goals-bytes.true))

pub returns : goal.returns
returns c =
    claim_got _ (opened (goal.at.returns c).In-Some) c.fewest.ensures c.in_ok-entries.ensures c.in_ok-goals.ensures c.if-goals-bytes.false
