-- sets of numbers below 256 in four words of 64 bits, and what the operations on the words make of them
use Rattle.std.specs.Prelude.{◌≡◌, refl, ◌⊎◌, Bool, true, false, not, ◌||◌, ◌&&◌, ℕ, zero, suc, ◌+◌, ◌*◌, ◌/◌, ◌%◌, ◌^◌, ◌<◌}
use Rattle.std.proofs.Math.Path.{ap}
use Rattle.std.proofs.Common.{◌∙◌, sym, inl, inr}
use native.Mathlib.Omega.{arith}
use Rattle.std.proofs.Math.Decide.{ℕ_discrete}
use Rattle.std.proofs.Math.Dec.{eqb}
use Rattle.std.specs.Int.Bits.{bit_and, bit_or, bit_xor, and_lt}
use Rattle.std.proofs.lemmas.Nat.{or_lt}
use borrow.Author.Tests.{eq-eqb, ne_eqb}
use Rattle.verdict.specs.Tells.{Tells, tells_self, eqb_tells, not_tells, and_tells, or_tells, tells_as}
use Rattle.bits.specs.Bits.{bit, or_bit, and_bit, less_bit, shift_bit, no_bit, some_bit, bit_some}
use Rattle.name_sets.specs.declared.Names.{Names}

abbrev pub word : Names → ℕ → ℕ
word n zero = n.0
word n (suc zero) = n.1
word n (suc (suc zero)) = n.2
word n (suc (suc (suc zero))) = n.3
word n (suc (suc (suc (suc i)))) = 0

-- word i holds the numbers from 64 × i on
unfoldable pub holds : Names → ℕ → Bool
unfolding bit
holds n x = bit (word n (x / 64)) (x % 64)

-- the set is that of the numbers below 256 that pass the test
abbrev pub Marks : Names → (ℕ → Bool) → Type 0
Marks n g = (x : ℕ) → x < 256 → holds n x ≡ g x

-- a number in both sets
abbrev pub Shared : Names → Names → Type 0
Shared n m = (x : ℕ) × (x < 256) × (holds n x ≡ true) × (holds m x ≡ true)

pub by_word : (P : ℕ → Type 0) → P 0 → P 1 → P 2 → P 3 → (i : ℕ) → i < 4 → P i
by_word P a b c d zero h = a
by_word P a b c d (suc zero) h = b
by_word P a b c d (suc (suc zero)) h = c
by_word P a b c d (suc (suc (suc zero))) h = d
by_word P a b c d (suc (suc (suc (suc i)))) h = absurd (omega arith)

-- word by word
abbrev pub each : (ℕ → ℕ → ℕ) → Names → Names → Names
each f n m = record { 0 = f n.0 m.0; 1 = f n.1 m.1; 2 = f n.2 m.2; 3 = f n.3 m.3 }

each_word : (f : ℕ → ℕ → ℕ) (n m : Names) (i : ℕ) → i < 4 → word (each f n m) i ≡ f (word n i) (word m i)
each_word f n m = by_word (λ i. word (each f n m) i ≡ f (word n i) (word m i)) refl refl refl refl

-- a test of two bits, made by an operation on two words, is that test of two sets
each_marks : (f : ℕ → ℕ → ℕ) (g : Bool → Bool → Bool) → ((a b k : ℕ) → bit (f a b) k ≡ g (bit a k) (bit b k))
    → (n m : Names) → Marks (each f n m) (λ x. g (holds n x) (holds m x))
unfolding holds
each_marks f g law n m x h =
    ap (λ (w : ℕ). bit w (x % 64)) (each_word f n m (x / 64) (omega arith)) ∙ law (word n (x / 64)) (word m (x / 64)) (x % 64)

pub none_marks : Marks (record { 0 = 0; 1 = 0; 2 = 0; 3 = 0 }) (λ x. false)
unfolding holds
none_marks x h = by_word (λ i. bit (word (record { 0 = 0; 1 = 0; 2 = 0; 3 = 0 }) i) (x % 64) ≡ false) (no_bit (x % 64)) (no_bit (x % 64)) (no_bit (x % 64)) (no_bit (x % 64)) (x / 64) (omega arith)

pub union_marks : (n m : Names) → Marks (each bit_or n m) (λ x. holds n x || holds m x)
union_marks = each_marks bit_or ◌||◌ or_bit

pub less_marks : (n m : Names) → Marks (each (λ a b. bit_xor a (bit_and a b)) n m) (λ x. holds n x && not (holds m x))
less_marks = each_marks (λ a b. bit_xor a (bit_and a b)) (λ p q. p && not q) less_bit

-- one number: its bit in its word, nothing in the others

abbrev pub kept : Bool → ℕ → ℕ
kept true w = w
kept false w = 0

abbrev pub mark_of : ℕ → ℕ
mark_of x = 1 * 2 ^ (x % 64) % 2 ^ 64

module _ (y : ℕ) (n : Names) where
  abbrev Word : ℕ → Type 0
  Word i = word n i ≡ kept (eqb (y / 64) i) (mark_of y)

  pub only_marks : Word 0 → Word 1 → Word 2 → Word 3 → Marks n (λ x. eqb x y)
  unfolding holds
  only_marks a b c d x h = ap (λ (w : ℕ). bit w (x % 64)) (by_word Word a b c d (x / 64) (omega arith)) ∙ go (ℕ_discrete (y / 64) (x / 64)) (ℕ_discrete (x % 64) (y % 64))
    where
      go : Dec (y / 64 ≡ x / 64) → Dec (x % 64 ≡ y % 64) → bit (kept (eqb (y / 64) (x / 64)) (mark_of y)) (x % 64) ≡ eqb x y
      go (yes q) (yes r) = rw (eq-eqb (y / 64) (x / 64) q, eq-eqb x y (omega arith)) (shift_bit (y % 64) (x % 64) (omega arith) ∙ eq-eqb (x % 64) (y % 64) r)
      go (yes q) (no r) = rw (eq-eqb (y / 64) (x / 64) q, ne_eqb x y (λ e. r (ap (λ (n : ℕ). n % 64) e))) (shift_bit (y % 64) (x % 64) (omega arith) ∙ ne_eqb (x % 64) (y % 64) r)
      go (no q) r = rw (ne_eqb (y / 64) (x / 64) q, ne_eqb x y (λ e. q (ap (λ (n : ℕ). n / 64) (sym e)))) (no_bit (x % 64))

-- a number in common: some bit of the four conjunctions

pub record Words (n : Names) : Type 0 where
  pub fit : (i : ℕ) → i < 4 → word n i < 2 ^ 64

pub words_fit : (n : Names) → n.0 < 2 ^ 64 → n.1 < 2 ^ 64 → n.2 < 2 ^ 64 → n.3 < 2 ^ 64 → Words n
words_fit n a b c d = record { fit = by_word (λ i. word n i < 2 ^ 64) a b c d }

abbrev pub common_word : Names → Names → ℕ
common_word n m = bit_or (bit_or (bit_or (bit_and n.0 m.0) (bit_and n.1 m.1)) (bit_and n.2 m.2)) (bit_and n.3 m.3)

module _ (n m : Names) where
  common : ℕ → ℕ
  common i = bit_and (word n i) (word m i)

  Some : ℕ → Type 0
  unfolding common
  Some k = (i : ℕ) × (i < 4) × (bit (common i) k ≡ true)

  common_bits : (k : ℕ) → bit (common_word n m) k ≡ (((bit (common 0) k || bit (common 1) k) || bit (common 2) k) || bit (common 3) k)
  unfolding common
  common_bits k = or_bit _ (common 3) k ∙ ap (λ b. b || bit (common 3) k) (or_bit _ (common 2) k ∙ ap (λ b. b || bit (common 2) k) (or_bit (common 0) (common 1) k))

  some_tells : (k : ℕ) → Tells (bit (common_word n m) k) (Some k)
  unfolding Some
  some_tells k =
      rw (common_bits k) (tells_as which (λ (i, l, h). those i l h) (or_tells (or_tells (or_tells (tells_self _) (tells_self _)) (tells_self _)) (tells_self _)))
    where
      Those : Type 0
      Those = (((bit (common 0) k ≡ true) ⊎ (bit (common 1) k ≡ true)) ⊎ (bit (common 2) k ≡ true)) ⊎ (bit (common 3) k ≡ true)

      which : Those → Some k
      which (inl (inl (inl h))) = (0, omega arith, h)
      which (inl (inl (inr h))) = (1, omega arith, h)
      which (inl (inr h)) = (2, omega arith, h)
      which (inr h) = (3, omega arith, h)

      those : (i : ℕ) → i < 4 → bit (common i) k ≡ true → Those
      those = by_word (λ i. bit (common i) k ≡ true → Those) (λ h. inl (inl (inl h))) (λ h. inl (inl (inr h))) (λ h. inl (inr h)) inr

  at_bit : (r : Names) (i k : ℕ) → k < 64 → bit (word r i) k ≡ true → holds r (64 * i + k) ≡ true
  unfolding holds
  at_bit r i k l h =
      let q : (64 * i + k) / 64 ≡ i = omega arith in
      let s : (64 * i + k) % 64 ≡ k = omega arith in
      rw (q, s) h

  pub meet_tells : Words n → Words m → Tells (not (eqb (common_word n m) 0)) (Shared n m)
  unfolding holds Some common
  meet_tells v w = record { says = says; holds = λ (x, l, h, k). shares x l h k }
    where
      fits : (i : ℕ) → i < 4 → common i < 2 ^ 64
      fits i l = and_lt 64 (word n i) (word m i) (v.fit i l) (w.fit i l)

      small : common_word n m < 2 ^ 64
      small = or_lt 64 _ (common 3) (or_lt 64 _ (common 2) (or_lt 64 (common 0) (common 1) (fits 0 (omega arith)) (fits 1 (omega arith))) (fits 2 (omega arith))) (fits 3 (omega arith))

      both : (i k : ℕ) → Tells (bit (common i) k) ((bit (word n i) k ≡ true) × (bit (word m i) k ≡ true))
      both i k = rw (and_bit (word n i) (word m i) k) (and_tells (tells_self _) (tells_self _))

      says : not (eqb (common_word n m) 0) ≡ true → Shared n m
      says h =
          let (k, l, b) = some_bit 64 (common_word n m) small ((not_tells (eqb_tells (common_word n m) 0)).says h) in
          let (i, j, c) = (some_tells k).says b in
          let (p, q) = (both i k).says c in
          (64 * i + k, omega arith, at_bit n i k l p, at_bit m i k l q)

      shares : (x : ℕ) → x < 256 → holds n x ≡ true → holds m x ≡ true → not (eqb (common_word n m) 0) ≡ true
      shares x l h k =
          (not_tells (eqb_tells (common_word n m) 0)).holds
          (bit_some (common_word n m) (x % 64) ((some_tells (x % 64)).holds (x / 64, omega arith, (both (x / 64) (x % 64)).holds (h, k))))
