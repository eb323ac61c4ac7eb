-- The slices, the claim, then the proof: the first that refuses answers.
use native.Mathlib.Omega.{arith}
use mathlib.Core.Path.{◌≡◌, refl}
use mathlib.Core.List.{List}
use mathlib.Core.Bool.{true, false, ◌||◌}
use Prim.Native.Nat.{ℕ, ◌≤◌}
use borrow.Author.Tests.{lt-ltb, le-ltb}
use lib.Dec.{ltb}
use lib.ListN.{length}
use Rattle.formula.specs.Table.{Table}
use Rattle.formula.specs.Claim.{Form, form_number}
use Rattle.formula.specs.Records.{NodeRecord}
use Rattle.formula.specs.Plain.{table_of, table_of_length}
use Rattle.encoding.specs.File.{refused}
use Rattle.proof_files.specs.ProofParts.{kind_table}
use Rattle.formula.specs.NamedForm.{named_form}
use Rattle.writing.specs.Ends.{End, next, stop}
use Rattle.writing.specs.Encoded.{claim_judged}
use Rattle.writing.proofs.Encoded.{claim_passes}
use Rattle.writing.specs.Held.{records_of, ProofWritten}
use Rattle.vetting.specs.StepLaws.{found_stop, found_next}
use Rattle.writer.specs.Written.{formed, asked_form, asked_none, Wrote, proved_by, proof_too_short, proof_of_no_form, claim_refused_first, proof_written, stands_beside}
use Rattle.std.proofs.Common.{ap}
use Rattle.std.specs.Prelude.{not}
use Rattle.writer.proofs.write_proof.Goals as goal
use Rattle.writer.proofs.write_proof.Goals.{Else-codes-lt24576, Else-not-is_form, Start}
use Rattle.writer.proofs.write_proof.Goals.{then-lent-lt256-via-then-lent-lt256, then-lent-lt256-via-else-lent-lt256+then-nodes_lent-lt1024}
use Rattle.writer.proofs.write_proof.Goals.{then-lent-lt256-via-else-lent-lt256+else-nodes_lent-lt1024+then-codes-lt24576}

-- every slice is as long as document 01 asks
record Long (lent nodes_lent : ℕ) (codes : List ℕ) : Type 0 where
  pub entries : 256 ≤ lent
  pub nodes : 1024 ≤ nodes_lent
  pub codes_long : 24576 ≤ length codes

-- what the claim's judge finds, and what is promised
module _ (s : Start) where
  abbrev form : Form
  form = named_form s.args.form

  abbrev table : Table
  table = table_of s.args.kinds.now s.args.a.now s.args.b.now s.args.count

  abbrev sizes : List ℕ
  sizes = s.args.sizes.now

  abbrev members : List ℕ
  members = s.args.members.now

  abbrev found : End
  found = claim_judged form s.args.count table sizes members

  abbrev roots : List ℕ
  roots = s.args.roots.now

  abbrev records : List NodeRecord
  records = records_of s.args.rules.now s.args.links.now s.args.counts.now s.args.nodes

  abbrev codes : List ℕ
  codes = s.args.codes.now

  abbrev out : List ℕ
  out = s.args.out.now

  abbrev Promised : ℕ → List ℕ → Type 0
  Promised r after =
      ProofWritten s.args.form s.args.lent s.args.count s.args.kinds.now s.args.a.now s.args.b.now sizes members
      s.args.nodes_lent s.args.nodes s.args.rules.now s.args.links.now s.args.counts.now roots codes out r after

  abbrev IsLong : Type 0
  IsLong = Long s.args.lent s.args.nodes_lent codes

  abbrev Named : Type 0
  Named = s.args.form ≡ form_number form

  short : (r : ℕ) → (ltb s.args.lent 256 || (ltb s.args.nodes_lent 1024 || ltb (length codes) 24576)) ≡ true → Wrote (refused 1 0) out r out → Promised r out
  short r =
      proof_too_short s.args.form s.args.lent s.args.count s.args.kinds.now s.args.a.now s.args.b.now sizes members
      s.args.nodes_lent s.args.nodes s.args.rules.now s.args.links.now s.args.counts.now roots codes out

  no_form : (r : ℕ) → IsLong → formed s.args.form ≡ false → Wrote (refused 10 0) out r out → Promised r out
  no_form r l =
      proof_of_no_form s.args.form s.args.lent s.args.count s.args.kinds.now s.args.a.now s.args.b.now sizes members
      s.args.nodes_lent s.args.nodes s.args.rules.now s.args.links.now s.args.counts.now roots codes out
      l.entries l.nodes l.codes_long

  refused-first : (r : ℕ) {n q : ℕ} → IsLong → Named → found ≡ stop n q → Wrote (refused n q) out r out → Promised r out
  refused-first r l named =
      claim_refused_first s.args.form s.args.lent s.args.count s.args.kinds.now s.args.a.now s.args.b.now sizes members
      s.args.nodes_lent s.args.nodes s.args.rules.now s.args.links.now s.args.counts.now roots codes out
      l.entries l.nodes l.codes_long form named

  written : (r : ℕ) (after : List ℕ) {o : ℕ} → IsLong → Named → found ≡ next o
      → Wrote (proved_by form (length sizes) (kind_table s.args.kinds.now s.args.count) s.args.nodes roots records codes (length out)) out r after → Promised r after
  written r after l named =
      proof_written s.args.form s.args.lent s.args.count s.args.kinds.now s.args.a.now s.args.b.now sizes members
      s.args.nodes_lent s.args.nodes s.args.rules.now s.args.links.now s.args.counts.now roots codes out
      l.entries l.nodes l.codes_long form named

long : (c : Else-codes-lt24576) → Long c.args.lent c.args.nodes_lent c.args.codes.now
long c = record { entries = omega (arith, c.if-lent-lt256.false); nodes = omega (arith, c.if-nodes_lent-lt1024.false); codes_long = omega (arith, c.if-codes-lt24576.false) }

named : (c : Else-not-is_form) → c.args.form ≡ form_number (named_form c.args.form)
named c = asked_form c.args.form c.is_form.ensures (ap not c.if-not-is_form.false)

pub returns-then-lent-lt256 : goal.returns-then-lent-lt256
returns-then-lent-lt256 c =
    short (goal.at.returns-then-lent-lt256 c).Start _
    (elim c.then-lent-lt256.branch [
      | then-lent-lt256-via-then-lent-lt256 w ↦ rw (lt-ltb c.args.lent 256 w.if-lent-lt256.true) refl
      | then-lent-lt256-via-else-lent-lt256+then-nodes_lent-lt1024 w ↦
          rw (le-ltb c.args.lent 256 (omega (arith, w.if-lent-lt256.false)), lt-ltb c.args.nodes_lent 1024 w.if-nodes_lent-lt1024.true) refl
      | then-lent-lt256-via-else-lent-lt256+else-nodes_lent-lt1024+then-codes-lt24576 w ↦
          rw (
            le-ltb c.args.lent 256 (omega (arith, w.if-lent-lt256.false)),
            le-ltb c.args.nodes_lent 1024 (omega (arith, w.if-nodes_lent-lt1024.false)),
            lt-ltb (length c.args.codes.now) 24576 w.if-codes-lt24576.true,
          ) refl
    ])
    (record { answer = c.refuse.ensures; laid = refl })

pub returns-then-not-is_form : goal.returns-then-not-is_form
returns-then-not-is_form c =
    no_form (goal.at.returns-then-not-is_form c).Start _ (long (goal.at.returns-then-not-is_form c).Else-codes-lt24576) (asked_none c.args.form c.is_form.ensures (ap not c.if-not-is_form.true)) (record { answer = c.refuse-then-not-is_form.ensures; laid = refl })

pub write_beside-requires : goal.write_beside-requires
write_beside-requires c =
    let s = (goal.at.write_beside-requires c).Start in
    let walked = found_next (c.in-Ok.ensures (form s) (named (goal.at.write_beside-requires c).Else-not-is_form)) in
    let p = claim_passes (form s) s.args.count (table s) (sizes s) (members s) (table_of_length s.args.kinds.now s.args.a.now s.args.b.now s.args.count) walked in
    (stands_beside (named (goal.at.write_beside-requires c).Else-not-is_form) p, (long (goal.at.write_beside-requires c).Else-codes-lt24576).codes_long, s.requires)

pub returns-in-Err : goal.returns-in-Err
returns-in-Err c =
    let s = (goal.at.returns-in-Err c).Start in
    refused-first s _ (long (goal.at.returns-in-Err c).Else-codes-lt24576) (named (goal.at.returns-in-Err c).Else-not-is_form) (found_stop (c.in-Err.ensures (form s) (named (goal.at.returns-in-Err c).Else-not-is_form)))
    (record { answer = c.refuse-in-Err.ensures; laid = refl })

pub returns-in-Ok : goal.returns-in-Ok
returns-in-Ok c =
    let s = (goal.at.returns-in-Ok c).Start in
    written s _ _ (long (goal.at.returns-in-Ok c).Else-codes-lt24576) (named (goal.at.returns-in-Ok c).Else-not-is_form) (found_next (c.in-Ok.ensures (form s) (named (goal.at.returns-in-Ok c).Else-not-is_form))) c.write_beside.ensures
