-- bounded orders: the Booleans, n elements of an order taken together, an order from above
use Rattle.std.specs.Prelude.{◌≡◌, refl, Bool, true, false, ℕ, zero, suc, ◌+◌, ◌-◌, ◌<◌, ◌≤◌}
use Rattle.std.proofs.Common.{le_of_suc-le-suc, arith}
use Rattle.meaning.specs.Truth.{◌⊑◌}
use Rattle.meaning.specs.Chain.{Bounded}

-- sums below n
unfoldable pub sum : ℕ → (ℕ → ℕ) → ℕ
sum zero f = 0
sum (suc n) f = f 0 + sum n (λ i. f (suc i))

pub sum_mono : (n : ℕ) (f g : ℕ → ℕ) → ((i : ℕ) → i < n → f i ≤ g i) → sum n f ≤ sum n g
unfolding sum
sum_mono zero f g h = omega arith
sum_mono (suc n) f g h = omega (arith, h 0 (omega arith), sum_mono n (λ i. f (suc i)) (λ i. g (suc i)) (λ i l. h (suc i) (omega arith)))

pub sum_back : (n : ℕ) (f g : ℕ → ℕ) → ((i : ℕ) → i < n → f i ≤ g i) → sum n g ≤ sum n f → (i : ℕ) → i < n → g i ≤ f i
unfolding sum
sum_back zero f g h w i l = absurd (omega arith)
sum_back (suc n) f g h w zero l = omega (arith, sum_mono n (λ i. f (suc i)) (λ i. g (suc i)) (λ i l. h (suc i) (omega arith)))
sum_back (suc n) f g h w (suc i) l =
    sum_back n (λ i. f (suc i)) (λ i. g (suc i)) (λ i l. h (suc i) (omega arith)) (omega (arith, h 0 (omega arith))) i (le_of_suc-le-suc l)

-- two sums side by side
pub sum_two : (n : ℕ) (f g h : ℕ → ℕ) → ((i : ℕ) → i < n → f i + g i ≤ h i) → sum n f + sum n g ≤ sum n h
unfolding sum
sum_two zero f g h k = omega arith
sum_two (suc n) f g h k =
    omega (arith, k 0 (omega arith), sum_two n (λ i. f (suc i)) (λ i. g (suc i)) (λ i. h (suc i)) (λ i l. k (suc i) (omega arith)))

pub sum_ones : (n : ℕ) → sum n (λ _. 1) ≡ n
unfolding sum
sum_ones zero = refl
sum_ones (suc n) = omega (arith, sum_ones n)

-- n elements of a bounded order, taken together
abbrev pub Each : {X : Type 0} → (X → X → Type 0) → ℕ → (ℕ → X) → (ℕ → X) → Type 0
Each R n f g = (i : ℕ) → i < n → R (f i) (g i)

pub each : {X : Type 0} {R : X → X → Type 0} {bound : ℕ} → Bounded R bound → (n : ℕ) → Bounded (Each R n) (sum n (λ _. bound))
each {bound} B n =
    record {
      join = λ f g h p q i l. B.join (f i) (g i) (h i) (p i l) (q i l);
      weight = λ f. sum n (λ i. B.weight (f i));
      most = λ f. sum_mono n (λ i. B.weight (f i)) (λ _. bound) (λ i l. B.most (f i));
      heavier = λ f g r. sum_mono n (λ i. B.weight (f i)) (λ i. B.weight (g i)) (λ i l. B.heavier (f i) (g i) (r i l));
      back = λ f g r w i l. B.back (f i) (g i) (r i l)
          (sum_back n (λ i. B.weight (f i)) (λ i. B.weight (g i)) (λ i l. B.heavier (f i) (g i) (r i l)) w i l);
    }

-- the same order from above
pub reverse : {X : Type 0} {R : X → X → Type 0} {bound : ℕ} → Bounded R bound → Bounded (λ x y. R y x) bound
reverse {bound} B =
    record {
      join = λ x y z p q. B.join z y x q p;
      weight = λ x. bound - B.weight x;
      most = λ x. omega arith;
      heavier = λ x y r. omega (arith, B.heavier y x r);
      back = λ x y r w. B.back y x r (omega (arith, B.most x, B.most y));
    }

to_number : Bool → ℕ
to_number true = 1
to_number false = 0

to_number_most : (a : Bool) → to_number a ≤ 1
unfolding to_number
to_number_most true = omega arith
to_number_most false = omega arith

to_number_mono : (a b : Bool) → a ⊑ b → to_number a ≤ to_number b
unfolding to_number
to_number_mono true b h = rw (h refl) (omega arith)
to_number_mono false b h = omega arith

to_number_back : (a b : Bool) → to_number b ≤ to_number a → b ⊑ a
unfolding to_number
to_number_back true b w h = refl
to_number_back false true w h = absurd (omega arith)
to_number_back false false w h = h

pub truth_bounded : Bounded ◌⊑◌ 1
truth_bounded =
    record {
      join = λ a b c p q h. q (p h);
      weight = to_number;
      most = to_number_most;
      heavier = to_number_mono;
      back = λ a b r. to_number_back a b;
    }
