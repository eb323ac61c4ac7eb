-- The invariant: the rows of all entries passed, and that what is left of the pass decides.
use mathlib.Core.Path.{◌≡◌}
use Prim.Native.Nat.{◌-◌}
use lib.ListN.{length}
use Rattle.scopes.specs.JudgeSteps.{Reached}
use Rattle.scopes.proofs.judge_rows.Given as goal

abbrev pub invariant-loop-e : goal.invariant-loop-e
invariant-loop-e l = (length l.free_rows ≡ length l.initial.free_rows) × (length l.open_rows ≡ length l.initial.open_rows) × Reached l.table.kinds.now l.table.a.now l.table.b.now l.table.count l.free_rows l.open_rows l.passed l.e
