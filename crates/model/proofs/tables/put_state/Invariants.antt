-- the loop walks the lists of a state that is there, where every step finds a list, and marks what it finds
use mathlib.Core.Path.{◌≡◌}
use mathlib.Core.List.{List}
use Prim.Native.Nat.{ℕ}
use lib.ListN.{get_or}
use Rattle.model.specs.ActionSteps.{Acting}
use Rattle.model.specs.Rows.{row_of}
use Rattle.model.proofs.tables.put_state.Given as goal

abbrev pub invariant-loop-rest : goal.invariant-loop-rest
invariant-loop-rest l =
    (ls : List (List ℕ)) × Acting l.bytes l.at (get_or l.bytes 4 0) l.header.actions l.header.next l.action l.rest ls l.next × (l.marks ≡ row_of ls)

abbrev pub decreases-loop-rest : goal.decreases-loop-rest
decreases-loop-rest l = l.rest
