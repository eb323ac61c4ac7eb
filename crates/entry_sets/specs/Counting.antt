-- how many numbers below n a test holds for, and the measure of a loop that takes one number of a set a turn
use Rattle.std.specs.Prelude.{◌≡◌, refl, Bool, true, false, ℕ, zero, suc, ◌+◌, ◌*◌, ◌<◌, ◌≤◌}
use Rattle.std.proofs.lemmas.Bool.{false≢true}
use Rattle.std.proofs.Common.{mul-add, arith}
use Rattle.std.proofs.Math.Nat.{mul-suc, mul-le-mul_left}
use Rattle.std.proofs.Math.Decide.{dec_le}
use Rattle.bits.specs.Bits.{one}
use Rattle.meaning.specs.Bounds.{sum, sum_mono, sum_back, sum_ones}

abbrev pub Within : (ℕ → Bool) → (ℕ → Bool) → Type 0
Within p q = (c : ℕ) → p c ≡ true → q c ≡ true

unfoldable pub count : ℕ → (ℕ → Bool) → ℕ
count n p = sum n (λ c. one (p c))

one_most : (i : Bool) → one i ≤ 1
one_most true = omega arith
one_most false = omega arith

pub count_most : (n : ℕ) (p : ℕ → Bool) → count n p ≤ n
unfolding count
count_most n p = let h = sum_mono n (λ c. one (p c)) (λ _. 1) (λ c l. one_most (p c)) in omega (arith, h, sum_ones n)

one_mono : (i j : Bool) → (i ≡ true → j ≡ true) → one i ≤ one j
one_mono true j h = rw (h refl) (omega arith)
one_mono false j h = omega arith

pub count_mono : (n : ℕ) (p q : ℕ → Bool) → Within p q → count n p ≤ count n q
unfolding count
count_mono n p q h = sum_mono n _ _ (λ c l. one_mono (p c) (q c) (h c))

-- a set that lacks a number of another that it lies within
pub count_less : (n : ℕ) (p q : ℕ → Bool) → Within p q → (e : ℕ) → e < n → p e ≡ false → q e ≡ true → count n p < count n q
unfolding count
count_less n p q h e l x y = go (dec_le (count n q) (count n p))
  where
    go : Dec (count n q ≤ count n p) → count n p < count n q
    go (no w) = omega arith
    go (yes w) =
        let z = sum_back n (λ c. one (p c)) (λ c. one (q c)) (λ c l. one_mono (p c) (q c) (h c)) w e l in
        let k : 1 ≤ 0 = rw (x, y) at z in absurd (omega (arith, k))

pub count_some : (n : ℕ) (p : ℕ → Bool) (e : ℕ) → e < n → p e ≡ true → 0 < count n p
count_some n p e l i = omega (arith, count_less n (λ _. false) p (λ c h. absurd (false≢true h)) e l refl i)

pub count_times : (n k : ℕ) (p : ℕ → Bool) → sum n (λ c. k * one (p c)) ≡ k * count n p
unfolding count sum
count_times zero k p = omega arith
count_times (suc n) k p = omega (arith, count_times n k (λ c. p (suc c)), mul-add k (one (p 0)) (sum n (λ c. one (p (suc c)))))

-- what is left, and what waits: at most so many as are counted for each that is left
unfoldable pub measure : ℕ → ℕ → (ℕ → Bool) → ℕ
measure most left waits = most * left + count 256 waits

module _ (most m l : ℕ) (p q : ℕ → Bool) where
  -- less is left, and any may wait
  pub measure_less : m < l → count 256 p ≤ most → 0 < count 256 q → measure most m p < measure most l q
  unfolding measure
  measure_less h j k = omega (arith, mul-le-mul_left most h, mul-suc most m)

  -- no more is left, and one less waits
  pub measure_same : m ≤ l → count 256 p < count 256 q → measure most m p < measure most l q
  unfolding measure
  measure_same h k = omega (arith, mul-le-mul_left most h)
