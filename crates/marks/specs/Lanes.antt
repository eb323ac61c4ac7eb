-- four numbers side by side in a word, sixteen bits apart: a digit of each at once, and the digits of sixteen as one number
use Rattle.std.specs.Prelude.{◌≡◌, refl, Bool, List, ℕ, zero, suc, ◌+◌, ◌*◌, ◌-◌, ◌/◌, ◌%◌, ◌^◌, ◌<◌, ◌≤◌, eqb}
use Rattle.std.proofs.Common.{sym, ap, ◌∙◌, add_assoc, mul_assoc, arith, pow_pos, pow-add, shr-shr}
use Rattle.std.proofs.Math.Nat.{add-zero, mul-add-div_right}
use Rattle.std.proofs.Math.Pow.{split, high, low}
use Rattle.std.specs.Int.Bits.{bit_and}
use Rattle.std.proofs.lemmas.Nat.{and_block, and_mask}
use Rattle.bits.specs.Bits.{one, digit, bit}
use Rattle.model_files.specs.DescribedLaws.{cell}
use Rattle.states.specs.Words.{word}
use Rattle.states.specs.TopDown.{from}

abbrev pub beside : ℕ → ℕ → ℕ → ℕ → ℕ
beside p q r t = p + q * 65536 + r * 4294967296 + t * 281474976710656

-- the four from u on
abbrev pub four_from : (ℕ → ℕ) → ℕ → ℕ
four_from d u = beside (d u) (d (u + 1)) (d (u + 2)) (d (u + 3))

even : (c d : ℕ) → (c * 2 + d) % 2 ≡ d % 2
even c d = omega arith

sixteen_parts : (a x : ℕ) → a < 16 → x * 2 ^ 16 ≡ x * 2 ^ (15 - a) * 2 * 2 ^ a
sixteen_parts a x h =
    let sum : 16 ≡ 15 - a + (1 + a) = omega arith in
    ap (λ (k : ℕ). x * 2 ^ k) sum
    ∙ ap (λ (k : ℕ). x * k) (pow-add 2 (15 - a) (1 + a) ∙ ap (λ (k : ℕ). 2 ^ (15 - a) * k) (pow-add 2 1 a))
    ∙ sym (mul_assoc x (2 ^ (15 - a)) (2 * 2 ^ a))
    ∙ sym (mul_assoc (x * 2 ^ (15 - a)) 2 (2 ^ a))

-- what stands above a number plays no part in its digits
low_digit : (a p x : ℕ) → a < 16 → digit (x * 2 ^ 16 + p) a ≡ digit p a
low_digit a p x h =
    ap (λ (k : ℕ). (k + p) / 2 ^ a % 2) (sixteen_parts a x h)
    ∙ ap (λ (k : ℕ). k % 2) (mul-add-div_right (pow_pos a) (x * 2 ^ (15 - a) * 2) p)
    ∙ even (x * 2 ^ (15 - a)) (p / 2 ^ a)

-- and what stands below it none in the rest
rest_shifted : (a p x : ℕ) → p < 2 ^ 16 → (x * 2 ^ 16 + p) / 2 ^ a / 2 ^ 16 ≡ x / 2 ^ a
rest_shifted a p x h =
    let swap : a + 16 ≡ 16 + a = omega arith in
    shr-shr (x * 2 ^ 16 + p) a 16
    ∙ ap (λ (k : ℕ). (x * 2 ^ 16 + p) / 2 ^ k) swap
    ∙ sym (shr-shr (x * 2 ^ 16 + p) 16 a)
    ∙ ap (λ (k : ℕ). k / 2 ^ a) (high x 16 h)

-- the digit of the lowest number, and those that a mask m takes of the others
lowest_masked : (a p x m : ℕ) → a < 16 → p < 2 ^ 16 → bit_and ((x * 2 ^ 16 + p) / 2 ^ a) (m * 2 ^ 16 + 1) ≡ bit_and (x / 2 ^ a) m * 2 ^ 16 + digit p a
lowest_masked a p x m h l =
    let w = (x * 2 ^ 16 + p) / 2 ^ a in
    ap (λ (k : ℕ). bit_and k (m * 2 ^ 16 + 1)) (sym (split w 16))
    ∙ and_block 16 (w / 2 ^ 16) m (w % 2 ^ 16) 1 (omega arith) (omega arith)
    ∙ ap (λ (k : ℕ). bit_and k m * 2 ^ 16 + bit_and (w % 2 ^ 16) 1) (rest_shifted a p x l)
    ∙ ap (λ (k : ℕ). bit_and (x / 2 ^ a) m * 2 ^ 16 + k) (and_mask (w % 2 ^ 16) 1 ∙ low_bit w ∙ low_digit a p x h)
  where
    low_bit : (k : ℕ) → k % 2 ^ 16 % 2 ≡ k % 2
    low_bit k = omega arith

-- the marks of four states in row s, and that those below the last keep to their sixteen bits
pub record FourMarks (marks : List (List ℕ)) (s u w : ℕ) : Type 0 where
  pub is : w ≡ four_from (cell marks s) u
  pub first : cell marks s u < 65536
  pub second : cell marks s (u + 1) < 65536
  pub third : cell marks s (u + 2) < 65536

-- of each of the four its digit at a
pub four_masked : {marks : List (List ℕ)} {s u w : ℕ} → FourMarks marks s u w → (a : ℕ) → a < 16
    → bit_and (w / 2 ^ a) 281479271743489 ≡ four_from (λ k. digit (cell marks s k) a) u
four_masked {marks} {s} {u} {w} F a h =
    let p = cell marks s u in
    let q = cell marks s (u + 1) in
    let r = cell marks s (u + 2) in
    let t = cell marks s (u + 3) in
    let up : w ≡ ((t * 2 ^ 16 + r) * 2 ^ 16 + q) * 2 ^ 16 + p = omega (arith, F.is) in
    let last = and_mask (t / 2 ^ a) 1 in
    let two = lowest_masked a r t 1 h F.third in
    let three = lowest_masked a q (t * 2 ^ 16 + r) 65537 h F.second in
    let all = lowest_masked a p ((t * 2 ^ 16 + r) * 2 ^ 16 + q) 4295032833 h F.first in
    ap (λ (x : ℕ). bit_and (x / 2 ^ a) 281479271743489) up ∙ omega (arith, all, three, two, last)

-- where each of four has bits 0, 4, 8 and 12 alone, they are moved in between each other: the second and the fourth by 15, then the last two
-- by 30
module _ (p q r t : ℕ) (hp : p ≤ 4369) (hq : q ≤ 4369) (hr : r ≤ 4369) (ht : t ≤ 4369) where
  once : beside p q r t / 2 ^ 15 ≡ 2 * q + 131072 * r + 8589934592 * t
  once =
      let parts : beside p q r t ≡ (2 * q + 131072 * r + 8589934592 * t) * 2 ^ 15 + p = omega arith in
      ap (λ (k : ℕ). k / 2 ^ 15) parts ∙ high (2 * q + 131072 * r + 8589934592 * t) 15 (omega arith)

  twice : (z : ℕ) → z ≡ beside (p + 2 * q) (q + 2 * r) (r + 2 * t) t → z / 2 ^ 30 ≡ 4 * (r + 2 * t) + 262144 * t
  twice z e =
      let parts : z ≡ (4 * (r + 2 * t) + 262144 * t) * 2 ^ 30 + (p + 2 * q + (q + 2 * r) * 65536) = omega arith in
      ap (λ (k : ℕ). k / 2 ^ 30) parts ∙ high (4 * (r + 2 * t) + 262144 * t) 30 (omega arith)

  small : p + 2 * q + 4 * r + 8 * t < 2 ^ 16
  small = omega arith

  folded : (y z : ℕ) → y ≡ beside p q r t → z ≡ y + y / 2 ^ 15 → bit_and (z + z / 2 ^ 30) 65535 ≡ p + 2 * q + 4 * r + 8 * t
  folded y z e f =
      let pairs : z ≡ beside (p + 2 * q) (q + 2 * r) (r + 2 * t) t = f ∙ ap (λ (k : ℕ). k + k / 2 ^ 15) e ∙ ap (λ (k : ℕ). beside p q r t + k) once ∙ omega arith in
      let sum : z + z / 2 ^ 30 ≡ (q + 2 * r + 4 * t + 65536 * (r + 2 * t) + 4294967296 * t) * 2 ^ 16 + (p + 2 * q + 4 * r + 8 * t) = omega (arith, twice z pairs) in
      and_mask (z + z / 2 ^ 30) 16
      ∙ ap (λ (k : ℕ). k % 2 ^ 16) sum
      ∙ low (q + 2 * r + 4 * t + 65536 * (r + 2 * t) + 4294967296 * t) 16 small

-- sixteen digits, four times four, the second four moved by 4, the third by 8, the last by 12
module _ (d : ℕ → ℕ) (bounded : (k : ℕ) → d k < 2) (u : ℕ) where
  -- the digits that come to lie in the same sixteen bits
  abbrev lane : ℕ → ℕ
  lane k = d k + 16 * d (k + 4) + 256 * d (k + 8) + 4096 * d (k + 12)

  lane_small : (k : ℕ) → lane k ≤ 4369
  lane_small k = omega (arith, bounded k, bounded (k + 4), bounded (k + 8), bounded (k + 12))

  spread : four_from d u + four_from d (u + 4) * 16 + four_from d (u + 8) * 256 + four_from d (u + 12) * 4096
      ≡ beside (lane u) (lane (u + 1)) (lane (u + 2)) (lane (u + 3))
  spread = simp add_assoc (omega arith)

  in_turn : (A : ℕ → Bool) → ((k : ℕ) → one (A k) ≡ d k) → lane u + 2 * lane (u + 1) + 4 * lane (u + 2) + 8 * lane (u + 3) ≡ word 16 (from u A)
  unfolding word
  in_turn A h = simp (h, add-zero, add_assoc) (omega arith)

  pub sixteen_folded : (A : ℕ → Bool) → ((k : ℕ) → one (A k) ≡ d k) → (y z : ℕ)
      → y ≡ four_from d u + four_from d (u + 4) * 16 + four_from d (u + 8) * 256 + four_from d (u + 12) * 4096 → z ≡ y + y / 2 ^ 15
      → bit_and (z + z / 2 ^ 30) 65535 ≡ word 16 (from u A)
  sixteen_folded A h y z e f =
      folded (lane u) (lane (u + 1)) (lane (u + 2)) (lane (u + 3)) (lane_small u) (lane_small (u + 1)) (lane_small (u + 2)) (lane_small (u + 3)) y z (e ∙ spread) f
      ∙ in_turn A h

pub one_digit : (w k : ℕ) → one (bit w k) ≡ digit w k
unfolding bit
one_digit w k = go (digit w k) (omega arith)
  where
    go : (d : ℕ) → d < 2 → one (eqb d 1) ≡ d
    go zero h = refl
    go (suc zero) h = refl
    go (suc (suc d)) h = absurd (omega arith)

-- the digits of each of four numbers in a word
digit_above : (a p x : ℕ) → p < 2 ^ 16 → digit (x * 2 ^ 16 + p) (16 + a) ≡ digit x a
digit_above a p x h = ap (λ (k : ℕ). k % 2) (sym (shr-shr (x * 2 ^ 16 + p) 16 a) ∙ ap (λ (k : ℕ). k / 2 ^ a) (high x 16 h))

module _ (p q r t : ℕ) (hp : p < 2 ^ 16) (hq : q < 2 ^ 16) (hr : r < 2 ^ 16) (a : ℕ) (h : a < 16) where
  up : beside p q r t ≡ ((t * 2 ^ 16 + r) * 2 ^ 16 + q) * 2 ^ 16 + p
  up = omega arith

  at : (k : ℕ) → digit (beside p q r t) k ≡ digit (((t * 2 ^ 16 + r) * 2 ^ 16 + q) * 2 ^ 16 + p) k
  at k = ap (λ (w : ℕ). digit w k) up

  first_digit : digit (beside p q r t) a ≡ digit p a
  first_digit = at a ∙ low_digit a p ((t * 2 ^ 16 + r) * 2 ^ 16 + q) h

  second_digit : digit (beside p q r t) (16 + a) ≡ digit q a
  second_digit = at (16 + a) ∙ digit_above a p ((t * 2 ^ 16 + r) * 2 ^ 16 + q) hp ∙ low_digit a q (t * 2 ^ 16 + r) h

  third_digit : digit (beside p q r t) (16 + (16 + a)) ≡ digit r a
  third_digit = at (16 + (16 + a)) ∙ digit_above (16 + a) p ((t * 2 ^ 16 + r) * 2 ^ 16 + q) hp ∙ digit_above a q (t * 2 ^ 16 + r) hq ∙ low_digit a r t h

  last_digit : digit (beside p q r t) (16 + (16 + (16 + a))) ≡ digit t a
  last_digit =
      at (16 + (16 + (16 + a))) ∙ digit_above (16 + (16 + a)) p ((t * 2 ^ 16 + r) * 2 ^ 16 + q) hp ∙ digit_above (16 + a) q (t * 2 ^ 16 + r) hq
      ∙ digit_above a r t hr

-- bit a of the number in lane l is bit 16 * l + a of the word
lane_bit : (d : ℕ → ℕ) (u l a : ℕ) → d u < 2 ^ 16 → d (u + 1) < 2 ^ 16 → d (u + 2) < 2 ^ 16 → l < 4 → a < 16 → bit (four_from d u) (16 * l + a) ≡ bit (d (u + l)) a
unfolding bit
lane_bit d u zero a hp hq hr hl h =
    let place : 16 * 0 + a ≡ a = omega arith in
    let first : u ≡ u + 0 = omega arith in
    ap (λ (x : ℕ). eqb x 1) (ap (digit (four_from d u)) place ∙ first_digit (d u) (d (u + 1)) (d (u + 2)) (d (u + 3)) hp hq hr a h ∙ ap (λ (k : ℕ). digit (d k) a) first)
lane_bit d u (suc zero) a hp hq hr hl h =
    let place : 16 * 1 + a ≡ 16 + a = omega arith in
    ap (λ (x : ℕ). eqb x 1) (ap (digit (four_from d u)) place ∙ second_digit (d u) (d (u + 1)) (d (u + 2)) (d (u + 3)) hp hq hr a h)
lane_bit d u (suc (suc zero)) a hp hq hr hl h =
    let place : 16 * 2 + a ≡ 16 + (16 + a) = omega arith in
    ap (λ (x : ℕ). eqb x 1) (ap (digit (four_from d u)) place ∙ third_digit (d u) (d (u + 1)) (d (u + 2)) (d (u + 3)) hp hq hr a h)
lane_bit d u (suc (suc (suc zero))) a hp hq hr hl h =
    let place : 16 * 3 + a ≡ 16 + (16 + (16 + a)) = omega arith in
    ap (λ (x : ℕ). eqb x 1) (ap (digit (four_from d u)) place ∙ last_digit (d u) (d (u + 1)) (d (u + 2)) (d (u + 3)) hp hq hr a h)
lane_bit d u (suc (suc (suc (suc l)))) a hp hq hr hl h = absurd (omega arith)

pub four_bit : {marks : List (List ℕ)} {s u w : ℕ} → FourMarks marks s u w → (l a : ℕ) → l < 4 → a < 16 → bit w (16 * l + a) ≡ bit (cell marks s (u + l)) a
four_bit {marks} {s} {u} {w} F l a hl h = ap (λ (x : ℕ). bit x (16 * l + a)) F.is ∙ lane_bit (cell marks s) u l a F.first F.second F.third hl h

-- one number in every lane
pub lanes_bit : (x l a : ℕ) → x < 65536 → l < 4 → a < 16 → bit (x * 281479271743489) (16 * l + a) ≡ bit x a
lanes_bit x l a hx hl h =
    let all : x * 281479271743489 ≡ four_from (λ _. x) 0 = omega arith in
    ap (λ (w : ℕ). bit w (16 * l + a)) all ∙ lane_bit (λ _. x) 0 l a hx hx hx hl h
