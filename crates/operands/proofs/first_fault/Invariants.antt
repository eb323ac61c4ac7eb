-- The invariant: no entry passed earns 20 or 71.
use mathlib.Core.Path.{◌≡◌}
use Prim.Native.Nat.{ℕ, ◌<◌, ◌≤◌, ◌-◌}
use Rattle.formula.specs.Columned.{entries}
use Rattle.operands.specs.OperandBounds.{number_at_lem}
use Rattle.operands.proofs.first_fault.Given as goal

abbrev pub invariant-loop-e : goal.invariant-loop-e
invariant-loop-e l = (w : ℕ) → w < l.e → number_at_lem (entries l.table) w ≡ 0
