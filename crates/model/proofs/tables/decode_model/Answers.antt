use mathlib.Core.Path.{◌≡◌, ap}
use Prim.Native.Nat.{◌<◌}
use native.Mathlib.Omega.{arith}
use lib.ListN.{length}
use Rattle.model_files.specs.ReadModel.{form_by, form_of}
use Rattle.model_files.specs.Decoded.{states_of}
use Rattle.model.specs.Tables.{tabled_begins, tabled_ends, tabled_steps, next_placed, next_there, next_unmarked}
use Rattle.model.proofs.tables.decode_model.Goals as goal
use Rattle.model.proofs.tables.decode_model.Goals.{In-loop-i}

-- in a turn: the file is good, its form is known, and one state more is to be read
module _ (c : In-loop-i) where
  more : c.loop-i.i < length (states_of c.args.bytes.now)
  more = omega (arith, c.state_count-states.ensures, c.loop-i-test.true)

  form : form_by c.for_actions-acts.result ≡ form_of c.args.bytes.now
  form = ap form_by c.for_actions-acts.ensures

pub loop-i-init : goal.loop-i-init
loop-i-init c = tabled_begins _ c.requires

pub put_state-put-requires : goal.put_state-put-requires
put_state-put-requires c =
    let t = (goal.at.put_state-put-requires c).In-loop-i in
    let s = c.args.bytes.now in
    let d = c.loop-i.invariant in
    (next_placed s c.requires d (more t), rw (form t) (next_there s c.requires d (more t)), next_unmarked s c.requires d (more t))

pub loop-i-preserved : goal.loop-i-preserved
loop-i-preserved c =
    let t = (goal.at.loop-i-preserved c).In-loop-i in
    tabled_steps c.args.bytes.now c.requires c.loop-i.invariant (more t) (rw (form t) at c.put_state-put.ensures)

pub returns : goal.returns
returns c =
    tabled_ends _ c.requires c.loop-i.invariant (omega (arith, c.state_count-states.ensures, c.loop-i-test.false))
