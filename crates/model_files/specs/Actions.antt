-- a set of actions as a map: bit n for action n
use Rattle.std.specs.Prelude.{◌≡◌, refl, Bool, true, false, ℕ, zero, suc, ◌+◌, ◌*◌, ◌/◌, ◌%◌, ◌^◌, ◌<◌, ◌≤◌, eqb}
use Rattle.std.proofs.Common.{sym, ap, ◌∙◌, le_of_suc-le-suc, pow-suc, arith, pow_pos, shr-shr}
use Rattle.bits.specs.Bits.{one, digit, bit, no_bit}
use Rattle.bits.specs.WordLaws.{equal_bits}

-- actions are 0 to 15
abbrev pub ACTIONS : ℕ
ACTIONS = 16

-- the actions below k that are in a set
unfoldable pub map_of : ℕ → (ℕ → Bool) → ℕ
map_of zero A = 0
map_of (suc k) A = one (A 0) + 2 * map_of k (λ n. A (suc n))

one_small : (b : Bool) → one b < 2
one_small true = omega arith
one_small false = omega arith

one_test : (b : Bool) → eqb (one b) 1 ≡ b
one_test true = refl
one_test false = refl

digit_first : (a w : ℕ) → a < 2 → digit (a + 2 * w) 0 ≡ a
digit_first a w h = omega arith

digit_next : (a w k : ℕ) → a < 2 → digit (a + 2 * w) (suc k) ≡ digit w k
digit_next a w k h =
    let next : suc k ≡ 1 + k = omega arith in
    let half : (a + 2 * w) / 2 ^ 1 ≡ w = omega arith in
    ap (λ (n : ℕ). (a + 2 * w) / 2 ^ n % 2) next
    ∙ ap (λ (n : ℕ). n % 2) (sym (shr-shr (a + 2 * w) 1 k))
    ∙ ap (λ (n : ℕ). n / 2 ^ k % 2) half

pub map_bit : (k : ℕ) (A : ℕ → Bool) (n : ℕ) → n < k → bit (map_of k A) n ≡ A n
unfolding map_of bit
map_bit zero A n h = absurd (omega arith)
map_bit (suc k) A zero h = ap (λ (d : ℕ). eqb d 1) (digit_first (one (A 0)) _ (one_small (A 0))) ∙ one_test (A 0)
map_bit (suc k) A (suc n) h =
    ap (λ (d : ℕ). eqb d 1) (digit_next (one (A 0)) (map_of k (λ m. A (suc m))) n (one_small (A 0)))
    ∙ map_bit k (λ m. A (suc m)) n (le_of_suc-le-suc h)

-- and no other bit
pub map_past : (k : ℕ) (A : ℕ → Bool) (n : ℕ) → k ≤ n → bit (map_of k A) n ≡ false
unfolding map_of bit
map_past zero A n h = no_bit n
map_past (suc k) A zero h = absurd (omega arith)
map_past (suc k) A (suc n) h =
    ap (λ (d : ℕ). eqb d 1) (digit_next (one (A 0)) (map_of k (λ m. A (suc m))) n (one_small (A 0)))
    ∙ map_past k (λ m. A (suc m)) n (le_of_suc-le-suc h)

pub map_small : (k : ℕ) (A : ℕ → Bool) → map_of k A < 2 ^ k
unfolding map_of
map_small zero A = omega arith
map_small (suc k) A = omega (arith, one_small (A 0), map_small k (λ n. A (suc n)), pow-suc 2 k)

-- there is one map for each set
pub map_is : (k w : ℕ) (A : ℕ → Bool) → w < 2 ^ k → ((n : ℕ) → n < k → bit w n ≡ A n) → w ≡ map_of k A
map_is k w A h e = equal_bits k w (map_of k A) h (map_small k A) (λ n l. e n l ∙ sym (map_bit k A n l))

-- at most action 0
pub map_first : (k : ℕ) (A : ℕ → Bool) → ((n : ℕ) → A (suc n) ≡ false) → map_of (suc k) A ≤ 1
unfolding map_of
map_first k A h = omega (arith, one_small (A 0), map_is k 0 (λ n. A (suc n)) (pow_pos k) (λ n _. no_bit n ∙ sym (h n)))
