use Prim.Native.Nat.{◌+◌, ◌≤◌}
use native.Mathlib.Omega.{arith}
use Rattle.edges.specs.Edges.{four_more, four_all}
use Rattle.edges.proofs.state_edges.Goals as goal

pub loop-u-preserved : goal.loop-u-preserved
loop-u-preserved c =
    let turn = c.loop-u in
    let wanted = c.four_times-wanted in
    (omega (arith, turn.invariant.0), four_more c.four.ensures wanted.ensures.0 wanted.ensures.1 turn.invariant.1 c.put_four.ensures)

pub returns-2 : goal.returns-2
returns-2 c =
    let turn = c.loop-u in
    let wanted = c.four_times-wanted in
    let done : c.args.table.now.n ≤ turn.u + 4 = omega arith in
    four_all done (four_more c.four.ensures wanted.ensures.0 wanted.ensures.1 turn.invariant.1 c.put_four.ensures)
