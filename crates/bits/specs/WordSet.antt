-- a set of numbers in words of 64 bits: number c is bit c % 64 of word c / 64
use Rattle.std.specs.Prelude.{◌≡◌, refl, List, Bool, false, ℕ, ◌+◌, ◌*◌, ◌/◌, ◌%◌, ◌^◌, ◌<◌, ◌≤◌, eqb, length, get_or, replicate}
use Rattle.std.proofs.Common.{ap, ◌∙◌, arith}
use Rattle.std.proofs.Math.Decide.{dec_lt}
use Rattle.std.specs.Int.Bits.{bit_and}
use Rattle.std.proofs.lemmas.List.{length-replicate, get_or-replicate}
use Rattle.std.proofs.Math.ListN.{get_or-eq_default}
use Rattle.bits.specs.Bits.{bit, no_bit}
use Rattle.bits.specs.WordLaws.{test_bit}

unfoldable pub in_set : List ℕ → ℕ → Bool
in_set w c = bit (get_or w (c / 64) 0) (c % 64)

-- the test that the code makes
pub in_word : (w : List ℕ) (c : ℕ) → eqb (bit_and (get_or w (c / 64) 0 / 2 ^ (c % 64)) 1) 1 ≡ in_set w c
unfolding in_set
in_word w c = test_bit (get_or w (c / 64) 0) (c % 64)

-- bit k of word i
pub place : (w : List ℕ) (i k : ℕ) → k < 64 → in_set w (64 * i + k) ≡ bit (get_or w i 0) k
unfolding in_set
place w i k h =
    let word : (64 * i + k) / 64 ≡ i = omega arith in
    let rest : (64 * i + k) % 64 ≡ k = omega arith in
    rw (word, rest) refl

-- no number past the last word is in the set
pub past_words : (w : List ℕ) (c : ℕ) → 64 * length w ≤ c → in_set w c ≡ false
unfolding in_set
past_words w c h = ap (λ (x : ℕ). bit x (c % 64)) (get_or-eq_default w 0 (omega arith)) ∙ no_bit (c % 64)

pub zeros_at : (n e : ℕ) → get_or (replicate {A = ℕ} n 0) e 0 ≡ 0
zeros_at n e = go (dec_lt e n)
  where
    go : Dec (e < n) → get_or (replicate {A = ℕ} n 0) e 0 ≡ 0
    go (yes h) = get_or-replicate n e 0 0 h
    go (no h) = get_or-eq_default (replicate n 0) 0 (omega (arith, length-replicate {A = ℕ} n 0))

-- no number is in words of no bit
pub none_in : (n c : ℕ) → in_set (replicate n 0) c ≡ false
unfolding in_set
none_in n c = ap (λ (x : ℕ). bit x (c % 64)) (zeros_at n (c / 64)) ∙ no_bit (c % 64)
