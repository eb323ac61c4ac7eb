use mathlib.Core.Path.{◌≡◌, sym, ap, ◌∙◌}
use mathlib.Core.List.{List, ◌∷◌, [], ◌++◌}
use Prim.Native.Nat.{ℕ, ◌+◌, ◌*◌, ◌%◌, ◌^◌, ◌<◌}
use native.Mathlib.Omega.{arith}
use lib.Bits.{bit_or}
use lib.ListN.{get_or, set}
use Rattle.model.specs.Slices.{slice, slice_long, slice_at}
use Rattle.model.specs.Rows.{row_of, row_skips, row_more}
use Rattle.model.specs.Decoding.{successors_at, successors_more}
use Rattle.model.proofs.tables.put_marks.Goals as goal
use Rattle.model.proofs.tables.put_marks.Goals.{In-loop-successor}

-- in a turn: the successor is a byte of the file, and has a mark
module _ (c : In-loop-successor) where
  more : c.loop-successor.successor-index < c.args.count
  more = omega (arith, c.loop-successor-test.true, slice_long c.args.bytes.now c.args.list c.args.count c.requires.0.room)

  here : get_or (slice c.args.bytes.now c.args.list c.args.count c.requires.0.room) c.loop-successor.successor-index 0 ≡ get_or c.args.bytes.now (c.args.list + c.loop-successor.successor-index) 0
  here = slice_at c.args.bytes.now c.args.list c.args.count c.requires.0.room c.loop-successor.successor-index c.loop-successor-test.true

  below : get_or c.args.bytes.now (c.args.list + c.loop-successor.successor-index) 0 < 64
  below = c.requires.0.below c.loop-successor.successor-index more

pub loop-successor-init : goal.loop-successor-init
loop-successor-init c = λ ls h e. e ∙ sym (row_skips ls)

pub loop-successor-preserved : goal.loop-successor-preserved
loop-successor-preserved c =
    let a = c.args in
    let s = a.bytes.now in
    let i = c.loop-successor.successor-index in
    let u = get_or s (a.list + i) 0 in
    let t = (goal.at.loop-successor-preserved c).In-loop-successor in
    rw (here t) (λ ls h e.
    ap (λ (l : List ℕ). set l u (bit_or (get_or l u 0) (1 * 2 ^ a.action % 2 ^ 16))) (c.loop-successor.invariant ls h e)
    ∙ row_more ls a.action h c.requires.1 (successors_at s a.list i) u (below t)
    ∙ ap (λ (l : List ℕ). row_of (ls ++ (l ∷ []))) (successors_more s a.list i (omega (arith, more t, c.requires.0.room))))
