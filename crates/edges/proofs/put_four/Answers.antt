use mathlib.Core.Path.{◌∙◌}
use native.Mathlib.Omega.{arith}
use Rattle.edges.specs.Edges.{putting_begins, putting_ends, putting_steps, fewer_left}
use Rattle.edges.proofs.put_four.Goals as goal

pub loop-rest-init : goal.loop-rest-init
loop-rest-init c = putting_begins _ _ _ _ _

pub put_one-requires : goal.put_one-requires
put_one-requires c =
    let pre = c.requires in
    (c.loop-rest.invariant.added.long ∙ pre.0, omega (arith, pre.1), pre.3)

pub loop-rest-smaller : goal.loop-rest-smaller
loop-rest-smaller c =
    let turn = c.loop-rest in
    let low = c.lowest_bit-p in
    fewer_left turn.invariant low.ensures c.requires.1 c.cleared-rest.ensures

pub loop-rest-preserved : goal.loop-rest-preserved
loop-rest-preserved c =
    let turn = c.loop-rest in
    let low = c.lowest_bit-p in
    putting_steps turn.invariant low.ensures c.requires.1 c.cleared-rest.ensures c.put_one.ensures

pub shape_of-rows : goal.shape_of-rows
shape_of-rows c = c.loop-rest.invariant.added.long

pub returns : goal.returns
returns c = putting_ends c.loop-rest.invariant (omega arith)
