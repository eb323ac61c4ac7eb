-- the bit that the code reads, sets and clears in a word; two words of the same bits are equal
use Rattle.std.specs.Prelude.{◌≡◌, Bool, not, ◌||◌, ◌&&◌, ℕ, ◌*◌, ◌/◌, ◌%◌, ◌^◌, ◌<◌, eqb}
use Rattle.std.proofs.Common.{ap, ◌∙◌, sym, arith, eq-eqb, ne_eqb, eqb-true}
use Rattle.std.proofs.Math.Decide.{ℕ_discrete}
use Rattle.std.specs.Int.Bits.{bit_and, bit_or, bit_xor}
use Rattle.std.proofs.lemmas.Nat.{and_mask}
use Rattle.std.proofs.lemmas.Nat.Bits.{same_from_bits_below}
use Rattle.std.proofs.lemmas.Bool.{eqb-false}
use Rattle.bits.specs.Bits.{bit, or_bit, less_bit, shift_bit}

abbrev pub with_bit : ℕ → ℕ → ℕ
with_bit w s = bit_or w (1 * 2 ^ s % 2 ^ 64)

abbrev pub without_bit : ℕ → ℕ → ℕ
without_bit w s = bit_xor w (bit_and w (1 * 2 ^ s % 2 ^ 64))

module _ (w s k : ℕ) (h : s < 64) where
  pub with_bit_lem : bit (with_bit w s) k ≡ (bit w k || eqb k s)
  with_bit_lem = or_bit w (1 * 2 ^ s % 2 ^ 64) k ∙ ap (λ (b : Bool). bit w k || b) (shift_bit s k h)

  pub without_bit_lem : bit (without_bit w s) k ≡ (bit w k && not (eqb k s))
  without_bit_lem = less_bit w (1 * 2 ^ s % 2 ^ 64) k ∙ ap (λ (b : Bool). bit w k && not b) (shift_bit s k h)

-- (w >> s) & 1 == 1
pub test_bit : (w s : ℕ) → eqb (bit_and (w / 2 ^ s) 1) 1 ≡ bit w s
unfolding bit
test_bit w s = ap (λ (n : ℕ). eqb n 1) (and_mask (w / 2 ^ s) 1)

equal_low : (x y : ℕ) → eqb (x % 2) 1 ≡ eqb (y % 2) 1 → x % 2 ≡ y % 2
equal_low x y e = go (ℕ_discrete (x % 2) 1)
  where
    go : Dec (x % 2 ≡ 1) → x % 2 ≡ y % 2
    go (yes h) = omega (arith, eqb-true (y % 2) 1 (sym e ∙ eq-eqb (x % 2) 1 h))
    go (no h) = omega (arith, eqb-false (y % 2) 1 (sym e ∙ ne_eqb (x % 2) 1 h))

pub equal_bits : (n x y : ℕ) → x < 2 ^ n → y < 2 ^ n → ((k : ℕ) → k < n → bit x k ≡ bit y k) → x ≡ y
unfolding bit
equal_bits n x y h j e = same_from_bits_below n x y h j (λ i l. equal_low (x / 2 ^ i) (y / 2 ^ i) (e i l))
