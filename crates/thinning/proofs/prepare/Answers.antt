-- The names of both operands are told by place, over the same names of the entry.
use native.Mathlib.Omega.{arith}
use Prim.Native.Nat.{ℕ, ◌≤◌}
use mathlib.Core.Path.{◌≡◌}
use Rattle.numbering.specs.Count.{tally, tally_bound}
use Rattle.name_sets.specs.declared.Names.{Names}
use Rattle.name_sets.specs.NameSets.{holds}
use Rattle.thinning.proofs.prepare.Goals as goal

-- no more names than numbers
small : (own : Names) (count size : ℕ) → size ≡ tally (holds own) count → count ≤ 256 → size ≤ 256
small own count size e h = omega (arith, e, tally_bound (holds own) count, h)

pub overflow_cast-totals : goal.overflow_cast-totals
overflow_cast-totals c = record { fits = omega (arith, small c.row-own.result c.args.table.now.count _ c.size_of-size.ensures c.args.table.now.few) }

pub overflow_add-bound : goal.overflow_add-bound
overflow_add-bound c = record { fits = omega (arith, small c.row-own.result c.args.table.now.count _ c.size_of-size.ensures c.args.table.now.few) }

pub overflow_cast-bound : goal.overflow_cast-bound
overflow_cast-bound c = record { fits = omega (arith, small c.row-own.result c.args.table.now.count _ c.size_of-size.ensures c.args.table.now.few) }
