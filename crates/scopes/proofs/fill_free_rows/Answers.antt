use mathlib.Core.Path.{refl}
use Prim.Native.Nat.{ℕ, ◌+◌, ◌*◌, ◌<◌, ◌≤◌}
use native.Mathlib.Omega.{arith}
use lib.ListN.{length}
use Rattle.scopes.specs.FreeRows.{free_on}
use Rattle.scopes.proofs.fill_free_rows.Goals as goal
use Rattle.scopes.proofs.fill_free_rows.Goals.{In-loop-e}

pub loop-e-preserved : goal.loop-e-preserved
loop-e-preserved c =
    rw c.put_row.ensures
    (free_on c.loop-e.invariant c.loop-e-test.true c.places_of-first.ensures _
    (_, _, c.row.ensures, c.row-in-loop-e.ensures, c.free_names-free.ensures))
