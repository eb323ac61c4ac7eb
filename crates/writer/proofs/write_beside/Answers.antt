-- Each answer is what the judge of the nodes found, and the file is laid down only where there is room for it.
use native.Mathlib.Omega.{arith}
use mathlib.Core.Path.{◌≡◌}
use mathlib.Core.List.{List}
use Prim.Native.Nat.{ℕ}
use lib.ListN.{length}
use Rattle.verdict.specs.Lists.{values_from_length}
use Rattle.formula.specs.Claim.{Form}
use Rattle.formula.specs.Table.{Table}
use Rattle.formula.specs.Records.{NodeRecord}
use Rattle.claim_files.specs.ClaimFile.{GoalCount}
use Rattle.proof_files.specs.ProofFile.{encode_proof}
use Rattle.proof_files.specs.ProofParts.{kind_table}
use Rattle.formula.specs.NamedForm.{named_form, for_named}
use Rattle.writing.specs.Goals.{roots_of}
use Rattle.writing.specs.Ends.{End, next}
use Rattle.writing.specs.ProofEnds.{nodes_over}
use Rattle.writing.specs.Encoded.{proof_judged, ProofPasses}
use Rattle.writing.proofs.Encoded.{proof_passes}
use Rattle.writing.specs.Held.{plain_record, records_of}
use Rattle.vetting.specs.StepLaws.{found_stop, found_next}
use Rattle.writer.specs.Written.{wrote_refusal, wrote_no_room, wrote_file, nodes_given, node_room}
use Rattle.writer.proofs.write_beside.Goals as goal
use Rattle.writer.proofs.write_beside.Goals.{Start}

-- the proof that stands in the columns, its file, and what its judge finds
module _ (s : Start) where
  abbrev form : Form
  form = named_form s.args.form

  abbrev kinds : Table
  kinds = kind_table s.args.kinds.now s.args.entries

  abbrev roots : List ℕ
  roots = s.args.roots.now

  abbrev records : List NodeRecord
  records = records_of s.args.rules.now s.args.links.now s.args.counts.now s.args.nodes

  abbrev codes : List ℕ
  codes = s.args.codes.now

  abbrev file : List ℕ
  file = encode_proof form (record { roots = roots_of form roots; nodes = nodes_over records codes })

  abbrev found : End
  found = proof_judged form s.args.goals kinds s.args.nodes roots records codes

  abbrev out : List ℕ
  out = s.args.out.now

  passes : {o : ℕ} → found ≡ next o → ProofPasses form s.args.goals kinds s.args.nodes roots records codes o
  passes =
      proof_passes form s.args.goals kinds s.args.nodes roots records codes
      (λ _. values_from_length (plain_record s.args.rules.now s.args.links.now s.args.counts.now) 0 s.args.nodes) s.requires.1

pub judge_proof-requires : goal.judge_proof-requires
judge_proof-requires c =
    record { entries_bound = (c.requires.0.table, c.requires.0.few, for_named (λ (f : Form). GoalCount f c.args.goals) c.requires.0.many); nodes_given = nodes_given c.requires.1 c.requires.2 }

pub returns-then-out-length : goal.returns-then-out-length
returns-then-out-length c =
    wrote_no_room (file (goal.at.returns-then-out-length c).Start) (out (goal.at.returns-then-out-length c).Start) (found_next (c.in-Ok.ensures (form (goal.at.returns-then-out-length c).Start) c.requires.0.named)) c.if-out-length.true c.refuse-then-out-length.ensures

pub put_proof-requires : goal.put_proof-requires
put_proof-requires c =
    let p = passes (goal.at.put_proof-requires c).Start (found_next (c.in-Ok.ensures (form (goal.at.put_proof-requires c).Start) c.requires.0.named)) in (
      omega (arith, p.end, c.if-out-length.false),
      node_room c.args.rules.now c.args.links.now c.args.counts.now (codes (goal.at.put_proof-requires c).Start) c.args.nodes (nodes_given c.requires.1 c.requires.2 p.nodes) p.few,
    )

pub returns-in-Err : goal.returns-in-Err
returns-in-Err c =
    let s = (goal.at.returns-in-Err c).Start in
    wrote_refusal (length (out s)) (file s) (out s) (found_stop (c.in-Err.ensures (form s) c.requires.0.named)) c.refuse.ensures

pub returns-else-out-length : goal.returns-else-out-length
returns-else-out-length c =
    let walked = found_next (c.in-Ok.ensures (form (goal.at.returns-else-out-length c).Start) c.requires.0.named) in
    wrote_file (file (goal.at.returns-else-out-length c).Start) (out (goal.at.returns-else-out-length c).Start) _ walked (omega (arith, c.if-out-length.false)) (passes (goal.at.returns-else-out-length c).Start walked).end (c.put_proof.ensures (form (goal.at.returns-else-out-length c).Start) c.requires.0.named)
