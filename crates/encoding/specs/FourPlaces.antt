-- a number of four bytes at a place of a file that is indexed
use Rattle.std.specs.Prelude.{◌≡◌, List, ℕ, ◌+◌, ◌<◌, ◌≤◌, length, get_or, drop}
use Rattle.std.proofs.Math.Path.{refl, ap}
use Rattle.std.proofs.Common.{◌∙◌}
use Rattle.std.proofs.Math.Decide.{dec_lt}
use native.Mathlib.Omega.{arith}
use Rattle.encoding.specs.Parse.{Got, fault, got, bind, word, double, two, four}
use Rattle.encoding.specs.Places.{word_at, two_at, two_end}

abbrev pub double_at : List ℕ → ℕ → ℕ
double_at s at = double (word_at s at, word (get_or s (at + 2) 0, get_or s (at + 3) 0))

module _ (early : ℕ) (s : List ℕ) (at : ℕ) where
  -- the low word, then the high one
  then_high : Got ℕ → Got ℕ
  then_high g = bind (bind g (λ x r o. bind (two early r o) (λ y t z. got (x, y) t z))) (λ p r o. got (double p) r o)

  with_high : Got ℕ → Got ℕ
  with_high g = bind (bind g (λ y t z. got (word_at s at, y) t z)) (λ p r o. got (double p) r o)

  past_low : at + 1 < length s → four early (drop at s) at ≡ with_high (two early (drop (at + 2) s) (at + 2))
  unfolding then_high with_high
  past_low h = ap then_high (two_at early s at h)

  pub four_at : at + 3 < length s → four early (drop at s) at ≡ got (double_at s at) (drop (at + 4) s) (at + 4)
  unfolding with_high
  four_at h =
      let e : at + 2 + 2 ≡ at + 4 = omega arith in
      let i : at + 2 + 1 ≡ at + 3 = omega arith in
      past_low (omega arith) ∙ ap with_high (two_at early s (at + 2) (omega arith)) ∙ rw (e, i) refl

  pub four_end : at ≤ length s → length s < at + 4 → four early (drop at s) at ≡ fault early (length s)
  unfolding then_high with_high
  four_end l h = cases (dec_lt (length s) (at + 2))
    where
      cases : Dec (length s < at + 2) → four early (drop at s) at ≡ fault early (length s)
      cases (yes k) = ap then_high (two_end early s at l k)
      cases (no k) = past_low (omega arith) ∙ ap with_high (two_end early s (at + 2) (omega arith) (omega arith))
