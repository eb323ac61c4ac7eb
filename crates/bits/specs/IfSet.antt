-- what a bit of a map brings: a number where the bit stands, else 0
use Rattle.std.specs.Prelude.{Bool, true, false, ℕ, ◌≤◌}
use Rattle.std.proofs.Common.{arith}

abbrev pub if_set_lem : Bool → ℕ → ℕ
if_set_lem true n = n
if_set_lem false n = 0

pub if_set_le : (b : Bool) (n : ℕ) → if_set_lem b n ≤ n
if_set_le true n = omega arith
if_set_le false n = omega arith
