-- numbers, fields, counts and rising lists of records, as the reader meets their bytes
use Rattle.std.specs.Prelude.{◌≡◌, refl, Bool, true, false, not, ◌||◌, eqb, leb, length}
use Rattle.std.proofs.Math.Path.{ap}
use Rattle.std.proofs.Common.{◌∙◌, arith, eqb-true, leb-false}
use mathlib.Core.List.{List, [], ◌∷◌, ◌++◌, map}
use Rattle.std.proofs.lemmas.Bool.{false≢true}
use Prim.Native.Nat.{ℕ, suc, ◌+◌, ◌*◌, ◌/◌, ◌%◌, ◌<◌, ◌≤◌}
use Rattle.verdict.specs.Tells.{Tells, fails_holds}
use Rattle.verdict.specs.Tests.{choose}
use Rattle.bits.specs.IfSet.{if_set_lem}
use Rattle.encoding.specs.Encode.{encode_two, encode_field, encode_all, Counts}
use Rattle.encoding.specs.ListLaws.{range_tells}
use Rattle.encoding.specs.Parse.{Got, fault, got, pick, bind, guard, two, field, count, in_range, fits_from, times}
use Rattle.writing.specs.RecordBytes.{stands, clipped}
use Rattle.writing.specs.Ends.{End, next, stop, walk, got_by, stop_not_next, Meets, times_walk, walk_past}

-- numbers of two bytes, and fields: of any size, since a number is read back from its bytes
module _ (early : ℕ) where
  pub two_meets : (n : ℕ) (s : List ℕ) (at : ℕ) → two early (encode_two n ++ s) at ≡ got n s (at + 2)
  two_meets n s at =
      let i : n % 256 + 256 * (n / 256) ≡ n = omega arith in
      let j : suc (suc at) ≡ at + 2 = omega arith in
      rw (← j) (ap (λ (m : ℕ). got m s (suc (suc at))) i)

  -- a field that the kind or rule lacks holds 0
  pub field_meets : (b : Bool) (n : ℕ) → b || eqb n 0 ≡ true → (s : List ℕ) (at : ℕ) → field early b (encode_field b n ++ s) at ≡ got n s (at + if_set_lem b 2)
  field_meets true n h s at = two_meets n s at
  field_meets false n h s at =
      let z : n ≡ 0 = eqb-true n 0 h in
      let j : at + 0 ≡ at = omega arith in
      rw (z, j) refl

pub field_long : (b : Bool) (n : ℕ) → length (encode_field b n) ≡ if_set_lem b 2
field_long true n = refl
field_long false n = refl

-- a field that the kind or rule lacks holds 0
abbrev pub may_hold_lem : Bool → ℕ → Bool
may_hold_lem has x = has || eqb x 0

-- then its bit stands just where the kind or rule has it
pub held_stands : (has : Bool) (x : ℕ) → may_hold_lem has x ≡ true → stands has x ≡ has
held_stands true x h = refl
held_stands false x h = ap not h

-- a field whose bit stands wherever it holds something may hold what it holds
pub stands_held : (has : Bool) (x : ℕ) → may_hold_lem (stands has x) x ≡ true
stands_held has x = go has (eqb x 0)
  where
    go : (p z : Bool) → (p || not z) || z ≡ true
    go true z = refl
    go false true = refl
    go false false = refl

-- what a bit of the map brings: its value where the kind or rule has the field, and as much more where a lacking field holds something
pub stands_over : (has : Bool) (x w : ℕ) → if_set_lem (stands has x) w ≡ if_set_lem has w + if_set_lem (not (may_hold_lem has x)) w
stands_over has x w = go has (eqb x 0)
  where
    go : (p z : Bool) → if_set_lem (p || not z) w ≡ if_set_lem p w + if_set_lem (not (p || z)) w
    go true z = omega arith
    go false true = refl
    go false false = omega arith

-- nothing more where it may hold what it holds
pub nothing_over : (b : Bool) (w : ℕ) → 1 ≤ w → Tells b (if_set_lem (not b) w ≡ 0)
nothing_over true w h = record { says = λ _. refl; holds = λ _. refl }
nothing_over false w h = record { says = λ e. absurd (false≢true e); holds = λ e. absurd (omega arith) }

-- a count in its range, or refused where it begins
abbrev pub count_end : ℕ → ℕ → ℕ → ℕ → ℕ → End
count_end least top k n at = pick (in_range least top n) (next (at + 2)) (stop k at)

pub out_of_range : (least top n : ℕ) → (Counts least top n → ⊥) → in_range least top n ≡ false
out_of_range least top n h = fails_holds (range_tells least top n) h

pub inside : (least top n : ℕ) → Counts least top n → in_range least top n ≡ true
inside least top n h = (range_tells least top n).holds h

-- a number that two bytes cannot hold is out of range, and so is what stands for it
module _ (early least top k : ℕ) (low : top ≤ 65534) (n : ℕ) (s : List ℕ) (at : ℕ) where
  clipped_out : leb n 65535 ≡ false → (m : ℕ) → top < m → pick (in_range least top m) (got m s (at + 2)) (fault k at) ≡ got_by n s (count_end least top k n at)
  clipped_out h m far =
      let i : in_range least top m ≡ false = out_of_range least top m (λ w. omega (arith, w.1)) in
      let j : in_range least top n ≡ false = out_of_range least top n (λ w. omega (arith, w.1, leb-false n 65535 h)) in
      rw (i, j) refl

  pub count_meets : count least top k (two early) (encode_two (clipped n) ++ s) at ≡ got_by n s (count_end least top k n at)
  count_meets = ap (λ (g : Got ℕ). bind g (λ x r o. pick (in_range least top x) (got x r o) (fault k at))) (two_meets early (clipped n) s at) ∙ go (leb n 65535) refl
    where
      picked : (b : Bool) → pick b (got n s (at + 2)) (fault k at) ≡ got_by n s (pick b (next (at + 2)) (stop k at))
      picked true = refl
      picked false = refl

      go : (b : Bool) → leb n 65535 ≡ b → pick (in_range least top (choose b n 65535)) (got (choose b n 65535) s (at + 2)) (fault k at) ≡ got_by n s (count_end least top k n at)
      go true h = picked (in_range least top n)
      go false h = clipped_out h 65535 (omega arith)

-- a list read by its own numbers
pub map_same : {A : Type 0} (l : List A) → map (λ x. x) l ≡ l
map_same [] = refl
map_same (x ∷ l) = ap (λ m. x ∷ m) (map_same l)

-- numbers that pass a test and rise
abbrev pub rises_end : (ℕ → Bool) → ℕ → ℕ → ℕ → ℕ → End
rises_end ok k c x at = pick (fits_from ok c x) (next (at + 2)) (stop k at)

abbrev pub rising_end : (ℕ → Bool) → ℕ → List ℕ → ℕ → End
rising_end ok k l at = walk (rises_end ok k) (λ _ x. suc x) 0 l at

module _ (early : ℕ) (ok : ℕ → Bool) (k : ℕ) where
  rises_meets : (c x : ℕ) → Meets (guard (fits_from ok c) k (two early)) encode_two (λ m. m) (rises_end ok k c) x
  rises_meets c x = record {
    reads = λ rest at. ap (λ (g : Got ℕ). bind g (λ y r o. pick (fits_from ok c y) (got y r o) (fault k at))) (two_meets early x rest at) ∙ passed (fits_from ok c x) rest at;
    past = λ at o h. past (fits_from ok c x) at o h;
  }
    where
      passed : (b : Bool) (rest : List ℕ) (at : ℕ) → pick b (got x rest (at + 2)) (fault k at) ≡ got_by x rest (pick b (next (at + 2)) (stop k at))
      passed true rest at = refl
      passed false rest at = refl

      past : (b : Bool) (at o : ℕ) → pick b (next (at + 2)) (stop k at) ≡ next o → o ≡ at + 2
      past true at o h = let i : at + 2 ≡ o = cc h in omega arith
      past false at o h = absurd (stop_not_next h)

  pub rising_met : (l rest : List ℕ) (at : ℕ) → times (λ c. guard (fits_from ok c) k (two early)) (λ _ x. suc x) (length l) 0 (encode_all encode_two l ++ rest) at ≡ got_by l rest (rising_end ok k l at)
  unfolding walk
  rising_met l rest at =
      times_walk (λ c. guard (fits_from ok c) k (two early)) (λ _ x. suc x) encode_two (λ m. m) (rises_end ok k) (λ _ m. suc m) (λ c x. refl) rises_meets l 0 rest at
      ∙ ap (λ (m : List ℕ). got_by m rest (rising_end ok k l at)) (map_same l)

  pub rising_past : (l : List ℕ) (at o : ℕ) → rising_end ok k l at ≡ next o → o ≡ at + length (encode_all encode_two l)
  unfolding walk
  rising_past l at o h = walk_past (λ c. guard (fits_from ok c) k (two early)) (λ _ x. suc x) encode_two (λ m. m) (rises_end ok k) (λ _ m. suc m) (λ c x. refl) rises_meets l 0 at o h

pub numbers_long : (l : List ℕ) → length (encode_all encode_two l) ≡ 2 * length l
unfolding encode_all
numbers_long [] = refl
numbers_long (x ∷ l) = omega (arith, numbers_long l)
