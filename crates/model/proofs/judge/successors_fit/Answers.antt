use borrow.Author.Tests.{leb-true}
use native.Mathlib.Omega.{arith}
use Prim.Native.Nat.{◌+◌, ◌≤◌}
use lib.ListN.{length}
use Rattle.model.specs.Slices.{slice_long, slice_at}
use Rattle.model.specs.SuccessorsRise.{risen_none, risen_more, risen_all}
use Rattle.model.proofs.judge.successors_fit.Goals as goal
use Rattle.model.proofs.judge.successors_fit.Goals.{Else-bytes-from}

-- so many bytes are there
room : (c : Else-bytes-from) → c.args.from + c.args.count ≤ length c.args.bytes.now
room c = omega (arith, c.requires.0.within, c.if-bytes-from.false)

pub loop-byte-init : goal.loop-byte-init
loop-byte-init c = (omega arith, risen_none _ _ _)

pub loop-byte-preserved : goal.loop-byte-preserved
loop-byte-preserved c =
    let r = room (goal.at.loop-byte-preserved c).Else-bytes-from in
    let here = slice_at _ c.args.from c.args.count r c.loop-byte.byte-index c.loop-byte-test.true in
    let many = slice_long _ c.args.from c.args.count r in
    let byte = c.type_inv.bytes (c.args.from + c.loop-byte.byte-index) in
    rw here (
      omega (arith, byte),
      risen_more _ _ _ c.loop-byte.invariant.1 (omega (arith, many)) (omega (arith, many)) (omega (arith, here, c.if-successor-least.false)),
    )

pub returns : goal.returns
returns c = λ e.
    let r = room (goal.at.returns c).Else-bytes-from in
    let many = slice_long _ c.args.from c.args.count r in
    risen_all _ _ _ c.loop-byte.invariant.1 (omega (arith, many)) (omega (arith, many)) r _ (leb-true _ _ e) (omega arith)
