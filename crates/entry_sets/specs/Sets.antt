-- sets of entries, by number: below 256, in four words
use Rattle.std.specs.Prelude.{◌≡◌, refl, List, Bool, true, false, not, ◌||◌, ◌&&◌, ℕ, ◌+◌, ◌*◌, ◌/◌, ◌%◌, ◌<◌, ◌≤◌, eqb, length, get_or, set, ◌⊎◌}
use Rattle.std.proofs.Common.{ap, ◌∙◌, sym, arith, length-set, eq-eqb, ne_eqb, inl, inr}
use Rattle.std.proofs.Math.Decide.{dec_lt, ℕ_discrete}
use Rattle.std.specs.Int.Bits.{bit_or}
use Rattle.meaning.specs.Truth.{true-or}
use Rattle.entry_sets.specs.Counting.{Within}
use Rattle.bits.specs.Bits.{bit, or_bit, no_bit}
use Rattle.bits.specs.WordLaws.{without_bit}
use Rattle.bits.specs.WordSet.{in_set, place, past_words}
use Rattle.bits.proofs.WordSet.{in_removed}
use Rattle.states.specs.Fill.{Filled}

pub in_below : (w : List ℕ) → length w ≡ 4 → (c : ℕ) → in_set w c ≡ true → c < 256
in_below w s c i = go (dec_lt c 256)
  where
    go : Dec (c < 256) → c < 256
    go (yes l) = l
    go (no l) = let z : ◌≡◌ {A = Bool} false true = sym (past_words w c (omega (arith, s))) ∙ i in let y : ◌≡◌ {A = ℕ} 0 1 = cc in absurd (omega arith)

-- four words anew, by their bits
pub by_words : (w v : List ℕ) (f : ℕ → ℕ) → Filled f w 4 v → length w ≡ 4 → (p : ℕ → Bool) → ((c : ℕ) → c < 256 → bit (f (c / 64)) (c % 64) ≡ p c)
    → (c : ℕ) → c < 256 → in_set v c ≡ p c
unfolding in_set
by_words w v f F l p h c m = ap (λ (x : ℕ). bit x (c % 64)) (F.below (c / 64) (omega arith)) ∙ h c m

-- a number of the set, or one past all if it has none
pub record Lowest (w : List ℕ) (r : ℕ) : Type 0 where
  pub found : r < 256 → in_set w r ≡ true
  pub none : 256 ≤ r → (c : ℕ) → in_set w c ≡ false

module _ (w : List ℕ) (i k : ℕ) (l : k < 64) (b : bit (get_or w i 0) k ≡ true) where
  pub lowest_found : i < 4 → (r : ℕ) → r ≡ 64 * i + k → Lowest w r
  lowest_found h r q = record { found = λ _. ap (in_set w) q ∙ place w i k l ∙ b; none = λ m. absurd (omega (arith, q)) }

pub lowest_none : (w : List ℕ) → length w ≡ 4 → get_or w 0 0 ≡ 0 → get_or w 1 0 ≡ 0 → get_or w 2 0 ≡ 0 → get_or w 3 0 ≡ 0 → Lowest w 256
unfolding in_set
lowest_none w s p q r t = record { found = λ m. absurd (omega arith); none = λ _ c. go c (dec_lt c 256) }
  where
    zero_word : (i : ℕ) → i < 4 → get_or w i 0 ≡ 0
    zero_word i h = at (ℕ_discrete i 0) (ℕ_discrete i 1) (ℕ_discrete i 2)
      where
        at : Dec (i ≡ 0) → Dec (i ≡ 1) → Dec (i ≡ 2) → get_or w i 0 ≡ 0
        at (yes e) y z = ap (λ (j : ℕ). get_or w j 0) e ∙ p
        at (no x) (yes e) z = ap (λ (j : ℕ). get_or w j 0) e ∙ q
        at (no x) (no y) (yes e) = ap (λ (j : ℕ). get_or w j 0) e ∙ r
        at (no x) (no y) (no z) = let e : i ≡ 3 = omega arith in ap (λ (j : ℕ). get_or w j 0) e ∙ t

    go : (c : ℕ) → Dec (c < 256) → bit (get_or w (c / 64) 0) (c % 64) ≡ false
    go c (yes l) = ap (λ (x : ℕ). bit x (c % 64)) (zero_word (c / 64) (omega arith)) ∙ no_bit (c % 64)
    go c (no l) = past_words w c (omega (arith, s))

-- a number more
pub record Inserted (w : List ℕ) (k : ℕ) (v : List ℕ) : Type 0 where
  pub long : length v ≡ length w
  pub tells : (d : ℕ) → in_set v d ≡ (in_set w d || eqb d k)

pub inserted_old : {w v : List ℕ} {k : ℕ} → Inserted w k v → Within (in_set w) (in_set v)
inserted_old {w} {v} {k} I d i = I.tells d ∙ true-or (in_set w d) (eqb d k) (inl i)

pub inserted_new : {w v : List ℕ} {k : ℕ} → Inserted w k v → in_set v k ≡ true
inserted_new {w} {v} {k} I = I.tells k ∙ true-or (in_set w k) (eqb k k) (inr (eq-eqb k k refl))

-- a number less
pub record Removed (w : List ℕ) (k : ℕ) (v : List ℕ) : Type 0 where
  pub long : length v ≡ length w
  pub tells : (d : ℕ) → in_set v d ≡ (in_set w d && not (eqb d k))

-- by one word anew, that of the number
pub removed_at : (w : List ℕ) (i k : ℕ) → length w ≡ 4 → i < 4 → k / 64 ≡ i → (x : ℕ) → x ≡ without_bit (get_or w i 0) (k % 64) → Removed w k (set w i x)
removed_at w i k l h e x q =
    rw (q, ← e) (record { long = length-set w (k / 64) _; tells = in_removed w k (omega (arith, l, h, e)) })

module _ {w v : List ℕ} {k : ℕ} (R : Removed w k v) where
  pub removed_less : (d : ℕ) → in_set v d ≡ true → (in_set w d ≡ true) × (d ≡ k → ⊥)
  removed_less d i = go (in_set w d) (ℕ_discrete d k) (sym (R.tells d) ∙ i)
    where
      go : (b : Bool) → Dec (d ≡ k) → (b && not (eqb d k)) ≡ true → (b ≡ true) × (d ≡ k → ⊥)
      go b (yes q) h = let z : (b && false) ≡ true = rw (eq-eqb d k q) at h in absurd (no b z)
        where
          no : (b : Bool) → (b && false) ≡ true → ⊥
          no true z = let y : ◌≡◌ {A = ℕ} 0 1 = cc in omega arith
          no false z = let y : ◌≡◌ {A = ℕ} 0 1 = cc in omega arith
      go true (no n) h = (refl, n)
      go false (no n) h = let y : ◌≡◌ {A = ℕ} 0 1 = cc in absurd (omega arith)

  pub removed_rest : (d : ℕ) → in_set w d ≡ true → (d ≡ k) ⊎ (in_set v d ≡ true)
  removed_rest d i = go (ℕ_discrete d k)
    where
      go : Dec (d ≡ k) → (d ≡ k) ⊎ (in_set v d ≡ true)
      go (yes q) = inl q
      go (no n) = inr (R.tells d ∙ rw (i, ne_eqb d k n) refl)

-- the numbers of two sets, word by word
unfoldable pub joined_word_lem : List ℕ → List ℕ → ℕ → ℕ
joined_word_lem ds bs i = bit_or (get_or ds i 0) (get_or bs i 0)

pub record Joined (ds bs es : List ℕ) : Type 0 where
  pub long : length es ≡ 4
  pub both : (c : ℕ) → c < 256 → in_set es c ≡ (in_set ds c || in_set bs c)

pub joined : (ds bs es : List ℕ) → length ds ≡ 4 → Filled (joined_word_lem ds bs) ds 4 es → Joined ds bs es
unfolding joined_word_lem in_set
joined ds bs es l F =
    record {
      long = F.long ∙ l;
      both = by_words ds es (joined_word_lem ds bs) F l _ (λ c h. or_bit (get_or ds (c / 64) 0) (get_or bs (c / 64) 0) (c % 64));
    }

pub joined_word : (ds bs : List ℕ) (i : ℕ) (es : List ℕ) → Filled (joined_word_lem ds bs) ds i es → bit_or (get_or es i 0) (get_or bs i 0) ≡ joined_word_lem ds bs i
unfolding joined_word_lem
joined_word ds bs i es F = ap (λ (x : ℕ). bit_or x (get_or bs i 0)) (F.above i (omega arith))
