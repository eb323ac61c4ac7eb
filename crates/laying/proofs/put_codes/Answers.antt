-- The count, then the codes.
use native.Mathlib.Omega.{arith}
use mathlib.Core.Path.{◌≡◌, ap}
use mathlib.Core.List.{◌∷◌}
use Prim.Native.Nat.{◌+◌, ◌*◌, ◌≤◌}
use lib.ListN.{length, length-set}
use Rattle.laying.specs.Laying.{numbers_left, codes_part, codes_some, numbers_length}
use Rattle.laying.proofs.put_codes.Goals as goal
use Rattle.laying.proofs.put_codes.Goals.{Else-count-eq0}

-- where there are codes: their count and two bytes for each
some : (c : Else-count-eq0) → codes_part c.args.codes.now c.args.start c.args.count ≡ c.args.count ∷ numbers_left c.args.codes.now c.args.start c.args.count
some c = codes_some c.args.codes.now c.args.start c.args.count c.requires.1 (omega arith)

with_codes : (c : Else-count-eq0) → c.args.at + (1 + 2 * c.args.count) ≤ length c.args.out.now
with_codes c = omega (arith, c.requires.0, ap length (some c), numbers_length c.args.codes.now c.args.start c.args.count c.requires.1)

pub put_numbers-requires : goal.put_numbers-requires
put_numbers-requires c = simp length-set (omega (arith, with_codes (goal.at.put_numbers-requires c).Else-count-eq0, c.requires.1))
