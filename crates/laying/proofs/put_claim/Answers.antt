-- The parts of a claim file, one run behind the other.
use mathlib.Core.Path.{◌≡◌, refl}
use mathlib.Core.List.{List, ◌++◌}
use Prim.Native.Nat.{ℕ, ◌+◌, ◌≤◌}
use lib.ListN.{length}
use Rattle.verdict.specs.Lists.{written}
use Rattle.formula.specs.Claim.{Form}
use Rattle.encoding.specs.Encode.{encode_two}
use Rattle.claim_files.specs.ClaimFile.{claim_opening, encode_goal_count, encode_claim}
use Rattle.formula.specs.NamedForm.{named_form, for_named}
use Rattle.writing.specs.RecordBytes.{split}
use Rattle.laying.specs.Laying.{Put, Left, entries_left, all_left, less_left, room_left, left-fits, last_left}
use Rattle.laying.specs.Goals.{goals_left}
use Rattle.laying.specs.Files.{claim_of, claim_parts, claim_parts_lem, claim_fits, file_put}
use Rattle.laying.proofs.put_claim.Goals as goal
use Rattle.laying.proofs.put_claim.Goals.{Start}

-- what is to be stored: opening and count, the entries, the goal count, the goals
module _ (s : Start) where
  abbrev out : List ℕ
  out = s.args.out.now

  abbrev form : Form
  form = named_form s.args.form

  abbrev opening : List ℕ
  opening = claim_opening form ++ encode_two s.args.count

  abbrev entries : List ℕ
  entries = entries_left s.args.kinds.now s.args.a.now s.args.b.now 0 s.args.count

  abbrev number : List ℕ
  number = encode_goal_count form (length s.args.counts.now)

  abbrev goals : List ℕ
  goals = goals_left s.args.counts.now s.args.members.now 0 0

  abbrev file : Form → List ℕ
  file f = encode_claim (claim_of f s.args.kinds.now s.args.a.now s.args.b.now s.args.count (split s.args.counts.now s.args.members.now))

  abbrev whole : List ℕ
  whole = claim_parts form s.args.kinds.now s.args.a.now s.args.b.now s.args.count s.args.counts.now s.args.members.now

  whole-file : whole ≡ file form
  whole-file = claim_parts_lem form s.args.kinds.now s.args.a.now s.args.b.now s.args.count s.args.counts.now s.args.members.now

  all_fit : 0 + length whole ≤ length out
  all_fit = claim_fits form s.args.kinds.now s.args.a.now s.args.b.now s.args.count s.args.counts.now s.args.members.now out s.requires.0

  -- what is left after the opening, after the entries, after the goal count
  opening_left : {next : ℕ} {now : List ℕ} → Put out 0 opening next now → Left whole 0 out (entries ++ (number ++ goals)) next now
  opening_left p = less_left opening (entries ++ (number ++ goals)) (all_left whole out 0) p

  entries-left : {at next : ℕ} {then now : List ℕ} → Left whole 0 out (entries ++ (number ++ goals)) at then → Put then at entries next now → Left whole 0 out (number ++ goals) next now
  entries-left l p = less_left entries (number ++ goals) l p

  count_left : {at next : ℕ} {then now : List ℕ} → Left whole 0 out (number ++ goals) at then → Put then at number next now → Left whole 0 out goals next now
  count_left l p = less_left number goals l p

pub put_entries-at-requires : goal.put_entries-at-requires
put_entries-at-requires c =
    let s = (goal.at.put_entries-at-requires c).Start in
    (room_left (entries s) (number s ++ goals s) (opening_left s c.open_claim.ensures) (all_fit s), c.requires.1)

pub put_goal_count-from-requires : goal.put_goal_count-from-requires
put_goal_count-from-requires c =
    let s = (goal.at.put_goal_count-from-requires c).Start in
    (room_left (number s) (goals s) (entries-left s (opening_left s c.open_claim.ensures) c.put_entries-at.ensures) (all_fit s), c.requires.2.few)

pub put_goals-requires : goal.put_goals-requires
put_goals-requires c =
    let s = (goal.at.put_goals-requires c).Start in
    (left-fits (count_left s (entries-left s (opening_left s c.open_claim.ensures) c.put_entries-at.ensures) c.put_goal_count-from.ensures) (all_fit s), c.requires.2)

pub returns : goal.returns
returns c =
    let s = (goal.at.returns c).Start in
    for_named (λ (f : Form). c.put_goals.new.out ≡ written (file s f) (out s))
    (file_put (whole-file s) c.requires.0
    (last_left {next = c.put_goal_count-from.result + length (goals s)} (goals s)
    (count_left s (entries-left s (opening_left s c.open_claim.ensures) c.put_entries-at.ensures) c.put_goal_count-from.ensures)
    (record { place = refl; stored = c.put_goals.ensures })))
