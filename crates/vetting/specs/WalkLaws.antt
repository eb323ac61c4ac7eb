-- a walk over records that stand in columns, by what is left of it: one more step, a stop, the end
use Rattle.std.specs.Prelude.{◌≡◌, List, [], ◌∷◌, Bool, true, false, leb, length, get_or, take, drop}
use Rattle.std.proofs.Math.Path.{refl}
use Rattle.std.proofs.Common.{sym, ◌∙◌, length-drop, length-take-le, get_or-take, get_or-drop}
use Prim.Native.Nat.{ℕ, zero, suc, ◌+◌, ◌*◌, ◌-◌, ◌<◌, ◌≤◌}
use native.Mathlib.Omega.{arith}
use Rattle.std.proofs.Math.Seq.{drop-cons, drop-length}
use Rattle.verdict.specs.Lists.{values_from}
use Rattle.verdict.specs.Tells.{tells_self, and_tells}
use Rattle.formula.specs.Plain.{plain_entry, table_of}
use Rattle.encoding.specs.Parse.{fits_from}
use Rattle.writing.specs.Ends.{next, stop, walk, passed, went}
use Rattle.writing.specs.FieldEnds.{rises_end, rising_end}
use Rattle.writing.specs.EntryEnds.{entry_fits_lem, entry_width_lem, entry_end, entries_end}

pub values_cons : {A : Type 0} (f : ℕ → A) (i n : ℕ) → i < n → values_from f i (n - i) ≡ f i ∷ values_from f (i + 1) (n - (i + 1))
unfolding values_from
values_cons f i n h =
    let e : n - i ≡ suc (n - (i + 1)) = omega arith in
    let j : i + 1 ≡ suc i = omega arith in
    rw (e, j) refl

pub values_none : {A : Type 0} (f : ℕ → A) (i n : ℕ) → n ≤ i → values_from f i (n - i) ≡ []
unfolding values_from
values_none f i n h = let e : n - i ≡ 0 = omega arith in rw e refl

-- the entries from i on are left, at a place
pub record EntriesLeft (ks xs ys : List ℕ) (n i at : ℕ) : Type 0 where
  pub left : entries_end (table_of ks xs ys n) 6 ≡ walk entry_end (λ _ _. 0) 0 (values_from (plain_entry ks xs ys) i (n - i)) at

pub entries_begin : (ks xs ys : List ℕ) (n : ℕ) → EntriesLeft ks xs ys n 0 6
unfolding table_of
entries_begin ks xs ys n = record { left = let z : n - 0 ≡ n = omega arith in rw z refl }

module _ {ks xs ys : List ℕ} {n i at : ℕ} (h : EntriesLeft ks xs ys n i at) where
  pub entries_end_lem : n ≤ i → entries_end (table_of ks xs ys n) 6 ≡ next at
  unfolding walk
  entries_end_lem k = h.left ∙ rw (values_none (plain_entry ks xs ys) i n k) refl

  module _ (k : i < n) where
    pub entries_stop : entry_fits_lem (plain_entry ks xs ys i) ≡ false → entries_end (table_of ks xs ys n) 6 ≡ stop 13 at
    unfolding walk
    entries_stop f = h.left ∙ rw (values_cons (plain_entry ks xs ys) i n k, f) refl

    pub entries_on : entry_fits_lem (plain_entry ks xs ys i) ≡ true → EntriesLeft ks xs ys n (i + 1) (at + entry_width_lem (get_or ks i 0) (get_or ys i 0))
    unfolding walk
    entries_on f = record { left = h.left ∙ rw (values_cons (plain_entry ks xs ys) i n k, f) refl }

-- of numbers that pass a test and rise, walked over from a place on, those from i on are left, none of them below a floor
pub record RisingLeft (ok : ℕ → Bool) (k : ℕ) (l : List ℕ) (at i floor : ℕ) : Type 0 where
  pub left : rising_end ok k l at ≡ walk (rises_end ok k) (λ _ x. suc x) floor (drop i l) (at + 2 * i)

pub rising_begins : (ok : ℕ → Bool) (k : ℕ) (l : List ℕ) (at : ℕ) → RisingLeft ok k l at 0 0
rising_begins ok k l at = record { left = let z : at + 2 * 0 ≡ at = omega arith in rw z refl }

module _ {ok : ℕ → Bool} {k : ℕ} {l : List ℕ} {at i floor : ℕ} (h : RisingLeft ok k l at i floor) where
  pub rising-end : i ≡ length l → rising_end ok k l at ≡ next (at + 2 * length l)
  unfolding walk
  rising-end b = h.left ∙ rw (b, drop-length l) refl

  module _ (b : i < length l) (x : ℕ) (read : x ≡ get_or l i 0) where
    pub rising_stop : fits_from ok floor x ≡ false → rising_end ok k l at ≡ stop k (at + 2 * i)
    unfolding walk
    rising_stop f = h.left ∙ rw (drop-cons l i 0 b, ← read, f) refl

    pub rising_on : fits_from ok floor x ≡ true → RisingLeft ok k l at (i + 1) (x + 1)
    unfolding walk
    rising_on f =
        let p : i + 1 ≡ suc i = omega arith in
        let q : x + 1 ≡ suc x = omega arith in
        let o : at + 2 * suc i ≡ at + 2 * i + 2 = omega arith in
        record { left = h.left ∙ rw (p, q, o, drop-cons l i 0 b, ← read, f) refl }

-- each of numbers that were walked over to the end passed the test
pub rising_passed : (ok : ℕ → Bool) (k : ℕ) (l : List ℕ) (c at : ℕ) {o : ℕ} → walk (rises_end ok k) (λ _ x. suc x) c l at ≡ next o → (i : ℕ) → i < length l → ok (get_or l i 0) ≡ true
unfolding walk
rising_passed ok k [] c at h i b = absurd (omega arith)
rising_passed ok k (x ∷ l) c at h i b =
    let w = went (rises_end ok k c x at) (λ u. walk (rises_end ok k) (λ _ y. suc y) (suc x) l u) h in
    let (fit, _) = passed (fits_from ok c x) (next (at + 2)) k at w.first in
    go ((and_tells (tells_self (leb c x)) (tells_self (ok x))).says fit).1 (rising_passed ok k l (suc x) w.place w.then) i b
  where
    go : ok x ≡ true → ((j : ℕ) → j < length l → ok (get_or l j 0) ≡ true) → (i : ℕ) → i < suc (length l) → ok (get_or (x ∷ l) i 0) ≡ true
    go here rest zero b = here
    go here rest (suc j) b = rest j (omega arith)

-- so many numbers of a list, from a start on
module _ (l : List ℕ) (start n : ℕ) (room : start + n ≤ length l) where
  pub part_long : length (take n (drop start l)) ≡ n
  part_long = length-take-le n (drop start l) (omega (arith, length-drop start l))

  pub part_at : (i : ℕ) → i < n → get_or l (start + i) 0 ≡ get_or (take n (drop start l)) i 0
  part_at i h = sym (get_or-take n (drop start l) i 0 h ∙ get_or-drop start l i 0)
