-- The invariant: the rows of all entries passed.
use Prim.Native.Nat.{◌-◌}
use Rattle.scopes.specs.FreeRows.{FreeReached}
use Rattle.scopes.proofs.fill_free_rows.Given as goal

abbrev pub invariant-loop-e : goal.invariant-loop-e
invariant-loop-e l = FreeReached l.table.kinds.now l.table.a.now l.table.b.now l.table.count l.initial.rows l.rows l.e
