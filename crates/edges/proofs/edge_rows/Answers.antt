use mathlib.Core.Path.{◌≡◌}
use native.Mathlib.Omega.{arith}
use Rattle.edges.specs.Edges.{states_all}
use Rattle.edges.proofs.edge_rows.Goals as goal

pub returns : goal.returns
returns c =
    let e : c.loop-s.s ≡ c.args.table.now.n = omega arith in
    states_all c.requires c.args.table.now.states (rw e at c.loop-s.invariant)
