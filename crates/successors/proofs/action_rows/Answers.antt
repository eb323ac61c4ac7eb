use mathlib.Core.Path.{◌≡◌}
use native.Mathlib.Omega.{arith}
use Rattle.states.specs.Rows.{rows_none, rows_set}
use Rattle.successors.proofs.action_rows.Goals as goal

pub loop-s-init : goal.loop-s-init
loop-s-init c = rows_none _ _ _ _

pub bounds-rows-a : goal.bounds-rows-a
bounds-rows-a c = omega (arith, c.requires, c.loop-s.invariant.long)

pub loop-s-preserved : goal.loop-s-preserved
loop-s-preserved c = rows_set c.loop-s.invariant _ (omega (arith, c.requires)) c.row_word.ensures

pub shape_of-rows : goal.shape_of-rows
shape_of-rows c = c.loop-s.invariant.long

pub returns : goal.returns
returns c =
    let e : c.loop-s.s ≡ c.args.table.now.n = omega arith in
    rw e at c.loop-s.invariant
