-- Each answer is what the judge of the records found, and the file is laid down only where there is room for it.
use native.Mathlib.Omega.{arith}
use mathlib.Core.Path.{◌≡◌, refl}
use mathlib.Core.List.{List}
use Prim.Native.Nat.{ℕ, ◌≤◌}
use lib.ListN.{length}
use Rattle.formula.specs.Table.{Table}
use Rattle.formula.specs.Claim.{Form, form_number}
use Rattle.formula.specs.Plain.{table_of, table_of_length}
use Rattle.claim_files.specs.ClaimFile.{encode_claim}
use Rattle.formula.specs.NamedForm.{named_form}
use Rattle.writing.specs.RecordBytes.{split}
use Rattle.writing.specs.Spelling.{spelled_claim}
use Rattle.writing.specs.Ends.{End, next}
use Rattle.writing.specs.Encoded.{claim_judged, ClaimPasses}
use Rattle.writing.proofs.Encoded.{claim_passes}
use Rattle.writing.specs.Held.{ClaimWritten}
use Rattle.writing.specs.Answers.{answered}
use Rattle.vetting.specs.StepLaws.{found_stop, found_next}
use Rattle.writer.specs.Written.{asked_form, asked_none, Wrote, wrote_refusal, wrote_no_room, wrote_file, claim_too_short, claim_of_no_form, claim_written, goals_room}
use Rattle.std.proofs.Common.{ap}
use Rattle.std.specs.Prelude.{not}
use Rattle.writer.proofs.write_claim.Goals as goal
use Rattle.writer.proofs.write_claim.Goals.{Else-not-is_form, Start}

-- the claim that stands in the columns, its file, and what its judge finds
module _ (s : Start) where
  abbrev form : Form
  form = named_form s.args.form

  abbrev table : Table
  table = table_of s.args.kinds.now s.args.a.now s.args.b.now s.args.count

  abbrev sizes : List ℕ
  sizes = s.args.sizes.now

  abbrev members : List ℕ
  members = s.args.members.now

  abbrev file : List ℕ
  file = encode_claim (spelled_claim form table (split sizes members))

  abbrev found : End
  found = claim_judged form s.args.count table sizes members

  abbrev out : List ℕ
  out = s.args.out.now

  abbrev Promised : ℕ → List ℕ → Type 0
  Promised r after = ClaimWritten s.args.form s.args.lent s.args.count s.args.kinds.now s.args.a.now s.args.b.now sizes members out r after

  promised : (r : ℕ) (after : List ℕ) → 256 ≤ s.args.lent → s.args.form ≡ form_number form → Wrote (answered found (length out) file) out r after → Promised r after
  promised r after h =
      claim_written s.args.form s.args.lent s.args.count s.args.kinds.now s.args.a.now s.args.b.now sizes members out h form

  passes : {o : ℕ} → found ≡ next o → ClaimPasses form s.args.count table sizes members o
  passes = claim_passes form s.args.count table sizes members (table_of_length s.args.kinds.now s.args.a.now s.args.b.now s.args.count)

long : (c : Else-not-is_form) → 256 ≤ c.args.lent
long c = omega (arith, c.if-lent-lt256.false)

named : (c : Else-not-is_form) → c.args.form ≡ form_number (named_form c.args.form)
named c = asked_form c.args.form c.is_form.ensures (ap not c.if-not-is_form.false)

pub returns-then-lent-lt256 : goal.returns-then-lent-lt256
returns-then-lent-lt256 c =
    claim_too_short c.args.form c.args.lent c.args.count c.args.kinds.now c.args.a.now c.args.b.now (sizes (goal.at.returns-then-lent-lt256 c).Start) (members (goal.at.returns-then-lent-lt256 c).Start) (out (goal.at.returns-then-lent-lt256 c).Start) c.if-lent-lt256.true
    (record { answer = c.refuse.ensures; laid = refl })

pub returns-then-not-is_form : goal.returns-then-not-is_form
returns-then-not-is_form c =
    claim_of_no_form c.args.form c.args.lent c.args.count c.args.kinds.now c.args.a.now c.args.b.now (sizes (goal.at.returns-then-not-is_form c).Start) (members (goal.at.returns-then-not-is_form c).Start) (out (goal.at.returns-then-not-is_form c).Start)
    (omega (arith, c.if-lent-lt256.false)) (asked_none c.args.form c.is_form.ensures (ap not c.if-not-is_form.true)) (record { answer = c.refuse-then-not-is_form.ensures; laid = refl })

pub returns-then-out-end : goal.returns-then-out-end
returns-then-out-end c =
    promised (goal.at.returns-then-out-end c).Start _ _ (long (goal.at.returns-then-out-end c).Else-not-is_form) (named (goal.at.returns-then-out-end c).Else-not-is_form)
    (wrote_no_room (file (goal.at.returns-then-out-end c).Start) (out (goal.at.returns-then-out-end c).Start) (found_next (c.in-Ok.ensures (form (goal.at.returns-then-out-end c).Start) (named (goal.at.returns-then-out-end c).Else-not-is_form))) c.if-out-end.true c.refuse-then-out-end.ensures)

pub put_claim-requires : goal.put_claim-requires
put_claim-requires c =
    let p = passes (goal.at.put_claim-requires c).Start (found_next (c.in-Ok.ensures (form (goal.at.put_claim-requires c).Start) (named (goal.at.put_claim-requires c).Else-not-is_form))) in
    (omega (arith, p.end, c.if-out-end.false), p.entries, goals_room p)

pub returns-in-Err : goal.returns-in-Err
returns-in-Err c =
    promised (goal.at.returns-in-Err c).Start _ _ (long (goal.at.returns-in-Err c).Else-not-is_form) (named (goal.at.returns-in-Err c).Else-not-is_form)
    (wrote_refusal (length (out (goal.at.returns-in-Err c).Start)) (file (goal.at.returns-in-Err c).Start) (out (goal.at.returns-in-Err c).Start) (found_stop (c.in-Err.ensures (form (goal.at.returns-in-Err c).Start) (named (goal.at.returns-in-Err c).Else-not-is_form))) c.refuse-in-Err.ensures)

pub returns-else-out-end : goal.returns-else-out-end
returns-else-out-end c =
    let walked = found_next (c.in-Ok.ensures (form (goal.at.returns-else-out-end c).Start) (named (goal.at.returns-else-out-end c).Else-not-is_form)) in
    promised (goal.at.returns-else-out-end c).Start _ _ (long (goal.at.returns-else-out-end c).Else-not-is_form) (named (goal.at.returns-else-out-end c).Else-not-is_form)
    (wrote_file (file (goal.at.returns-else-out-end c).Start) (out (goal.at.returns-else-out-end c).Start) _ walked (omega (arith, c.if-out-end.false)) (passes (goal.at.returns-else-out-end c).Start walked).end (c.put_claim.ensures (form (goal.at.returns-else-out-end c).Start) (named (goal.at.returns-else-out-end c).Else-not-is_form)))
