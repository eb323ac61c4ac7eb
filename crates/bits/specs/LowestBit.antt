-- the lowest bit of a word: its trailing zeros lead to it
use Rattle.std.specs.Prelude.{◌≡◌, true, false, ℕ, ◌/◌, ◌%◌, ◌^◌, ◌<◌}
use Rattle.std.proofs.Common.{arith, eq-eqb, ne_eqb, w64}
use Rattle.std.specs.Int.Count.{count_trailing_zeros}
use Rattle.std.proofs.lemmas.Nat.Bits.{bit_at-trailing_zeros}
use Rattle.bits.specs.Bits.{bit}

-- bit r stands, and none below it
pub record LowestBit (w r : ℕ) : Type 0 where
  pub small : r < 64
  pub stands : bit w r ≡ true
  pub none_below : (k : ℕ) → k < r → bit w k ≡ false

module _ (w : ℕ) (some : w ≡ 0 → ⊥) (fits : w < 2 ^ 64) where
  pub lowest_bit_lem : LowestBit w (count_trailing_zeros 64 w)
  unfolding bit
  lowest_bit_lem =
      let (small, stands, below) = bit_at-trailing_zeros w64 w (omega (arith, some)) fits in
      record {
        small = small;
        stands = eq-eqb _ 1 stands;
        none_below = λ k h. ne_eqb (w / 2 ^ k % 2) 1 (λ (z : w / 2 ^ k % 2 ≡ 1). omega (arith, below k h, z));
      }
