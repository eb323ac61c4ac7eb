-- The invariant: the entries of the kind among those passed.
use Prim.Native.Nat.{◌≤◌, ◌-◌}
use lib.Dec.{eqb}
use lib.ListN.{get_or}
use Rattle.name_sets.specs.MarksBelow.{MarksBelow}
use Rattle.scopes.proofs.of_kind.Given as goal

abbrev pub invariant-loop-e : goal.invariant-loop-e
invariant-loop-e l = MarksBelow l.found l.e (λ n. eqb (get_or l.table.kinds.now n 0) l.kind)
