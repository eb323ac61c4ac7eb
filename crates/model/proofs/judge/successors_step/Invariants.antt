-- the loop walks the successors one by one: what is read, and the least successor that may follow; that least one grows with each turn, so few are read
use mathlib.Core.List.{List}
use Prim.Native.Nat.{ℕ, ◌+◌, ◌≤◌}
use lib.ListN.{length, drop}
use Rattle.encoding.specs.Walk.{Walking}
use Rattle.model_files.specs.ReadModel.{successors}
use Rattle.model.specs.ListSteps.{one_successor, after_successor}
use Rattle.model.proofs.judge.successors_step.Given as goal

abbrev pub invariant-loop-i : goal.invariant-loop-i
invariant-loop-i l =
    (l.from + l.i ≤ length l.bytes)
    × (l.i ≤ l.least)
    × (l.least ≤ 64)
    × ((xs : List ℕ) × Walking (one_successor l.states) after_successor (successors l.states l.count (drop l.from l.bytes) l.from) l.count l.i xs l.least (drop (l.from + l.i) l.bytes) (l.from + l.i))
