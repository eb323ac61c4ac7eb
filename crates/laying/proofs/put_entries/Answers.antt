use native.Mathlib.Omega.{arith}
use mathlib.Core.List.{List, ◌++◌}
use Prim.Native.Nat.{ℕ, ◌+◌, ◌-◌}
use Rattle.formula.specs.Spelled.{Spelled}
use Rattle.formula.specs.Plain.{plain_entry}
use Rattle.claim_files.specs.ClaimFile.{encode_entry}
use Rattle.writing.specs.Spelling.{spelled_as}
use Rattle.laying.specs.Laying.{Left, entries_left, entries_step, entries_end_lem, less_left, none_left, room_left}
use Rattle.laying.proofs.put_entries.Goals as goal
use Rattle.laying.proofs.put_entries.Goals.{In-loop-i}

-- in a turn: this entry, and what comes after it
module _ (c : In-loop-i) where
  abbrev i : ℕ
  i = c.loop-i.i

  abbrev this : Spelled
  this = spelled_as (plain_entry c.args.kinds.now c.args.a.now c.args.b.now i)

  abbrev left : ℕ → ℕ → List ℕ
  left = entries_left c.args.kinds.now c.args.a.now c.args.b.now

  abbrev after : List ℕ
  after = left (i + 1) (c.args.count - (i + 1))

  this_left : Left (left 0 c.args.count) 6 c.args.out.now (encode_entry this ++ after) c.loop-i.at c.loop-i.out
  this_left = rw (← (entries_step c.args.kinds.now c.args.a.now c.args.b.now c.args.count i c.loop-i-test.true)) c.loop-i.invariant

pub put_entry-at-requires : goal.put_entry-at-requires
put_entry-at-requires c =
    let t = (goal.at.put_entry-at-requires c).In-loop-i in
    room_left (encode_entry (this t)) (after t) (this_left t) c.requires.0

pub loop-i-preserved : goal.loop-i-preserved
loop-i-preserved c =
    let t = (goal.at.loop-i-preserved c).In-loop-i in
    less_left (encode_entry (this t)) (after t) (this_left t) c.put_entry-at.ensures

pub returns : goal.returns
returns c =
    let entry = c.args in
    none_left (entries_end_lem entry.kinds.now entry.a.now entry.b.now entry.count c.loop-i.i (omega arith)) c.loop-i.invariant
