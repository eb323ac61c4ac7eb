-- bit k of a word, as a test, and its laws for the words that the code makes
use Rattle.std.specs.Prelude.{◌≡◌, Bool, true, false, ◌||◌, ◌&&◌, ℕ, zero, suc, ◌+◌, ◌*◌, ◌-◌, ◌/◌, ◌%◌, ◌^◌, ◌<◌, min, max, ltb}
use Rattle.std.proofs.Math.Path.{refl, ap}
use Rattle.std.proofs.Common.{◌∙◌, sym, subst, arith, lit<, pow-add, shl_exact, shr-shr, eq-eqb, ne_eqb, lt-ltb, le-ltb}
use Rattle.std.proofs.Math.Bool.{not}
use Rattle.std.proofs.lemmas.Bool.{false≢true}
use Rattle.std.proofs.Math.Decide.{dec_lt, ℕ_discrete}
use Rattle.std.proofs.Math.Dec.{eqb}
use Rattle.std.proofs.lemmas.Nat.Bits.{bit_at_and, bit_at_or, bit_at_xor, bit_at-zero, bit_at-pow_same, bit_at-pow_other, bit_at_ones, bit_at_ones_above}
use Rattle.std.specs.Int.Bits.{bit_and, bit_or, bit_xor}

-- the number of a truth value
abbrev pub one : Bool → ℕ
one true = 1
one false = 0

-- bit k of w as a number, 0 or 1
abbrev pub digit : ℕ → ℕ → ℕ
digit w k = w / 2 ^ k % 2

unfoldable pub bit : ℕ → ℕ → Bool
bit w k = eqb (digit w k) 1

-- a test of two digits, by the four pairs of digits
by_digits : (P : ℕ → ℕ → Type 0) → P 0 0 → P 0 1 → P 1 0 → P 1 1 → (a b : ℕ) → a < 2 → b < 2 → P a b
by_digits P p q r s zero zero h k = p
by_digits P p q r s zero (suc zero) h k = q
by_digits P p q r s (suc zero) zero h k = r
by_digits P p q r s (suc zero) (suc zero) h k = s
by_digits P p q r s zero (suc (suc b)) h k = absurd (omega arith)
by_digits P p q r s (suc zero) (suc (suc b)) h k = absurd (omega arith)
by_digits P p q r s (suc (suc a)) b h k = absurd (omega arith)

module _ (x y k : ℕ) where
  pub or_bit : bit (bit_or x y) k ≡ (bit x k || bit y k)
  unfolding bit
  or_bit =
      ap (λ (n : ℕ). eqb n 1) (bit_at_or x y k)
      ∙ by_digits (λ a b. eqb (max a b) 1 ≡ (eqb a 1 || eqb b 1)) refl refl refl refl (digit x k) (digit y k) (omega arith) (omega arith)

  pub and_bit : bit (bit_and x y) k ≡ (bit x k && bit y k)
  unfolding bit
  and_bit =
      ap (λ (n : ℕ). eqb n 1) (bit_at_and x y k)
      ∙ by_digits (λ a b. eqb (min a b) 1 ≡ (eqb a 1 && eqb b 1)) refl refl refl refl (digit x k) (digit y k) (omega arith) (omega arith)

  -- the bits of x that y does not have
  pub less_bit : bit (bit_xor x (bit_and x y)) k ≡ (bit x k && not (bit y k))
  unfolding bit
  less_bit =
      ap (λ (n : ℕ). eqb n 1) (bit_at_xor x (bit_and x y) k ∙ ap (λ (n : ℕ). (digit x k + n) % 2) (bit_at_and x y k))
      ∙ by_digits (λ a b. eqb ((a + min a b) % 2) 1 ≡ (eqb a 1 && not (eqb b 1))) refl refl refl refl (digit x k) (digit y k) (omega arith) (omega arith)

pub no_bit : (k : ℕ) → bit 0 k ≡ false
unfolding bit
no_bit k = ap (λ (n : ℕ). eqb n 1) (bit_at-zero k)

-- the one bit of 2 ^ s
one_digit : (s k m : ℕ) → digit (2 ^ s) k ≡ m → digit (1 * 2 ^ s) k ≡ m
one_digit s k m h = ap (λ (n : ℕ). digit n k) (omega arith) ∙ h

pub one_bit : (s k : ℕ) → bit (1 * 2 ^ s) k ≡ eqb k s
unfolding bit
one_bit s k = go (ℕ_discrete k s)
  where
    go : Dec (k ≡ s) → eqb (digit (1 * 2 ^ s) k) 1 ≡ eqb k s
    go (yes e) = subst (λ (n : ℕ). eqb (digit (1 * 2 ^ s) n) 1 ≡ eqb n s) (sym e) (ap (λ (n : ℕ). eqb n 1) (one_digit s s 1 (bit_at-pow_same s)) ∙ sym (eq-eqb s s refl))
    go (no ne) = ap (λ (n : ℕ). eqb n 1) (one_digit s k 0 (bit_at-pow_other s k ne)) ∙ sym (ne_eqb k s ne)

-- what `1 << s` makes in 64 bits
pub shift_bit : (s k : ℕ) → s < 64 → bit (1 * 2 ^ s % 2 ^ 64) k ≡ eqb k s
shift_bit s k h = ap (λ (n : ℕ). bit n k) (shl_exact 1 s 64 (lit< tt) (omega arith)) ∙ one_bit s k

-- the m lowest bits
pub ones_bit : (m k : ℕ) → bit (2 ^ m - 1) k ≡ ltb k m
unfolding bit
ones_bit m k = go (dec_lt k m)
  where
    go : Dec (k < m) → eqb (digit (2 ^ m - 1) k) 1 ≡ ltb k m
    go (yes h) = eq-eqb _ 1 (bit_at_ones m k h) ∙ sym (lt-ltb k m h)
    go (no h) = ap (λ (n : ℕ). eqb n 1) (bit_at_ones_above m k (omega arith)) ∙ sym (le-ltb k m (omega arith))

-- a word that is not 0 has a bit within its width
pub some_bit : (n w : ℕ) → w < 2 ^ n → (w ≡ 0 → ⊥) → (k : ℕ) × (k < n) × (bit w k ≡ true)
unfolding bit
some_bit zero w h ne = absurd (ne (omega arith))
some_bit (suc n) w h ne = go (ℕ_discrete (w % 2) 1) (some_bit n (w / 2))
  where
    go : Dec (w % 2 ≡ 1) → (w / 2 < 2 ^ n → (w / 2 ≡ 0 → ⊥) → (k : ℕ) × (k < n) × (eqb (digit (w / 2) k) 1 ≡ true))
        → (k : ℕ) × (k < suc n) × (eqb (digit w k) 1 ≡ true)
    go (yes odd) ih = (0, omega arith, eq-eqb (digit w 0) 1 (omega arith))
    go (no even) ih =
        let (k, l, q) = ih (omega (arith, pow-add 2 1 n)) (λ z. ne (omega arith)) in
        (suc k, omega arith, ap (λ (m : ℕ). eqb (m % 2) 1) (next k) ∙ q)
      where
        next : (k : ℕ) → w / 2 ^ suc k ≡ w / 2 / 2 ^ k
        next k = ap (λ (m : ℕ). w / 2 ^ m) (omega arith) ∙ sym (shr-shr w 1 k)

-- and a word with a bit is not 0
pub bit_some : (w k : ℕ) → bit w k ≡ true → w ≡ 0 → ⊥
bit_some w k h z = false≢true (sym (no_bit k) ∙ ap (λ (n : ℕ). bit n k) (sym z) ∙ h)
