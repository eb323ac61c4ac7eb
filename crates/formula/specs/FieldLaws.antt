-- the bit map of a kind by its fields
use Rattle.std.specs.Prelude.{◌≡◌, refl, true, false, ◌&&◌, ℕ, ◌≤◌, leb}
use Rattle.std.proofs.Common.{arith}
use Rattle.verdict.specs.Tells.{Tells, and_tells, leb_tells}
use Rattle.formula.specs.Kind
use Rattle.formula.specs.Fields.{has_a_lem, has_b, map_of}

-- a number within two bounds
pub within_tells : (a b k : ℕ) → Tells (leb a k && leb k b) ((a ≤ k) × (k ≤ b))
within_tells a b k = and_tells (leb_tells a k) (leb_tells k b)

pub map_two : (k : ℕ) → has_b k ≡ true → map_of k ≡ 3
map_two k h =
    let (l, m) = (within_tells Kind.OR Kind.AND k).says h in
    rw ((within_tells Kind.LETTER Kind.NAME k).holds (omega arith, omega arith), h) refl

pub map-one : (k : ℕ) → has_b k ≡ false → has_a_lem k ≡ true → map_of k ≡ 1
map-one k h i = rw (i, h) refl

pub map-none : (k : ℕ) → has_b k ≡ false → has_a_lem k ≡ false → map_of k ≡ 0
map-none k h i = rw (i, h) refl
