-- bits of the words that the code makes
use Rattle.std.specs.Prelude.{◌≡◌, refl, true, false, not, ℕ, zero, suc, ◌+◌, ◌/◌, ◌%◌, ◌^◌, ◌<◌, ◌≤◌, eqb}
use Rattle.std.proofs.Common.{ap, ◌∙◌, sym, arith, pow_mono, shr-shr, eq-eqb, ne_eqb}
use Rattle.std.proofs.lemmas.Bool.{false≢true}
use Rattle.std.proofs.Math.Nat.{div-eq_of_lt}
use Rattle.std.proofs.Math.Decide.{dec_lt}
use Rattle.std.specs.Int.Bits.{bit_and}
use Rattle.std.proofs.lemmas.Nat.{and_mask}
use Rattle.bits.specs.Bits.{digit, bit}

-- the digit that the code reads: (w >> s) & 1
pub read_digit : (w s : ℕ) → bit_and (w / 2 ^ s) 1 ≡ digit w s
read_digit w s = and_mask (w / 2 ^ s) 1

pub read_set : (w s : ℕ) → bit_and (w / 2 ^ s) 1 ≡ 1 → bit w s ≡ true
unfolding bit
read_set w s h = eq-eqb (digit w s) 1 (sym (read_digit w s) ∙ h)

pub read_clear : (w s : ℕ) → (bit_and (w / 2 ^ s) 1 ≡ 1 → ⊥) → bit w s ≡ false
unfolding bit
read_clear w s h = ne_eqb (digit w s) 1 (λ e. h (read_digit w s ∙ e))

-- a number is known by its bits
digit_next : (v k : ℕ) → digit v (suc k) ≡ digit (v / 2) k
digit_next v k =
    let next : suc k ≡ 1 + k = omega arith in
    ap (λ (n : ℕ). v / 2 ^ n % 2) next ∙ ap (λ (n : ℕ). n % 2) (sym (shr-shr v 1 k))

halves : (m v w : ℕ) → v ≤ m → w ≤ m → ((k : ℕ) → digit v k ≡ digit w k) → v ≡ w
halves zero v w p q h = omega arith
halves (suc m) v w p q h =
    let upper : v / 2 ≡ w / 2 = halves m (v / 2) (w / 2) (omega arith) (omega arith) (λ k. sym (digit_next v k) ∙ h (suc k) ∙ digit_next w k) in
    omega (arith, upper, h 0)

same_digit : (a b : ℕ) → a < 2 → b < 2 → eqb a 1 ≡ eqb b 1 → a ≡ b
same_digit zero zero p q h = refl
same_digit zero (suc zero) p q h = let z : ◌≡◌ {A = ℕ} 0 1 = cc in omega arith
same_digit (suc zero) zero p q h = let z : ◌≡◌ {A = ℕ} 0 1 = cc in omega arith
same_digit (suc zero) (suc zero) p q h = refl
same_digit zero (suc (suc b)) p q h = absurd (omega arith)
same_digit (suc zero) (suc (suc b)) p q h = absurd (omega arith)
same_digit (suc (suc a)) b p q h = absurd (omega arith)

pub bits_same : (v w : ℕ) → ((k : ℕ) → bit v k ≡ bit w k) → v ≡ w
unfolding bit
bits_same v w h = halves (v + w) v w (omega arith) (omega arith) (λ k. same_digit (digit v k) (digit w k) (omega arith) (omega arith) (h k))

-- a bit lies within the width
pub bit_within : (n w k : ℕ) → w < 2 ^ n → bit w k ≡ true → k < n
unfolding bit
bit_within n w k h e = go (dec_lt k n)
  where
    go : Dec (k < n) → k < n
    go (yes l) = l
    go (no l) =
        let wide : 2 ^ n ≤ 2 ^ k = pow_mono (omega arith) in
        let small : w < 2 ^ k = omega arith in
        absurd (false≢true (sym (ap (λ (d : ℕ). eqb (d % 2) 1) (div-eq_of_lt small)) ∙ e))

-- a negated letter: the digit is 0 where it is not 1
zero_test : (a : ℕ) → a < 2 → eqb a 0 ≡ not (eqb a 1)
zero_test zero p = refl
zero_test (suc zero) p = refl
zero_test (suc (suc a)) p = absurd (omega arith)

pub zero_digit : (w k : ℕ) → eqb (digit w k) 0 ≡ not (bit w k)
unfolding bit
zero_digit w k = zero_test (digit w k) (omega arith)
