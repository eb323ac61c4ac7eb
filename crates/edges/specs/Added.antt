-- words that get bits, one by one or many at a time
use Rattle.std.specs.Prelude.{◌≡◌, refl, ◌⊎◌, List, true, ◌||◌, ℕ, ◌<◌, ◌≤◌, eqb, length, get_or, set}
use Rattle.std.proofs.Common.{ap, ◌∙◌, inl, inr, arith, length-set, get_or-set_same, get_or-set_other}
use Rattle.std.proofs.Math.Decide.{ℕ_discrete}
use Rattle.verdict.specs.Tells.{Tells, tells_as, tells_self, or_tells, eqb_tells}
use Rattle.bits.specs.Bits.{bit}
use Rattle.bits.specs.WordLaws.{with_bit, with_bit_lem}

-- the words have the bits that they had, and bit k of word i where P says so
pub record Added (P : ℕ → ℕ → Type 0) (old new : List ℕ) : Type 0 where
  pub long : length new ≡ length old
  pub tells : (i k : ℕ) → i < 1024 → Tells (bit (get_or new i 0) k) ((bit (get_or old i 0) k ≡ true) ⊎ P i k)

either_none : {P Q : Type 0} → (Q → ⊥) → P ⊎ Q → P
either_none n (inl p) = p
either_none n (inr q) = absurd (n q)

pub added_none : {P : ℕ → ℕ → Type 0} (old : List ℕ) → ((i k : ℕ) → i < 1024 → P i k → ⊥) → Added P old old
added_none old n = record { long = refl; tells = λ i k h. tells_as inl (either_none (n i k h)) (tells_self (bit (get_or old i 0) k)) }

module _ {P Q : ℕ → ℕ → Type 0} where
  pub added_as : {old new : List ℕ} → ((i k : ℕ) → i < 1024 → P i k → Q i k) → ((i k : ℕ) → i < 1024 → Q i k → P i k) → Added P old new → Added Q old new
  added_as f g A = record { long = A.long; tells = λ i k h. tells_as (onto (f i k h)) (onto (g i k h)) (A.tells i k h) }
    where
      onto : {X Y Z : Type 0} → (Y → Z) → X ⊎ Y → X ⊎ Z
      onto h (inl x) = inl x
      onto h (inr y) = inr (h y)

  pub added_more : {old mid new : List ℕ} → Added P old mid → Added Q mid new → Added (λ i k. P i k ⊎ Q i k) old new
  added_more {old} {mid} {new} A B = record { long = B.long ∙ A.long; tells = λ i k h. record { says = says i k h; holds = holds i k h } }
    where
      says : (i k : ℕ) → i < 1024 → bit (get_or new i 0) k ≡ true → (bit (get_or old i 0) k ≡ true) ⊎ (P i k ⊎ Q i k)
      says i k h z = go ((B.tells i k h).says z)
        where
          first : (bit (get_or old i 0) k ≡ true) ⊎ P i k → (bit (get_or old i 0) k ≡ true) ⊎ (P i k ⊎ Q i k)
          first (inl x) = inl x
          first (inr p) = inr (inl p)

          go : (bit (get_or mid i 0) k ≡ true) ⊎ Q i k → (bit (get_or old i 0) k ≡ true) ⊎ (P i k ⊎ Q i k)
          go (inl x) = first ((A.tells i k h).says x)
          go (inr q) = inr (inr q)

      holds : (i k : ℕ) → i < 1024 → (bit (get_or old i 0) k ≡ true) ⊎ (P i k ⊎ Q i k) → bit (get_or new i 0) k ≡ true
      holds i k h (inl x) = (B.tells i k h).holds (inl ((A.tells i k h).holds (inl x)))
      holds i k h (inr (inl p)) = (B.tells i k h).holds (inl ((A.tells i k h).holds (inr p)))
      holds i k h (inr (inr q)) = (B.tells i k h).holds (inr q)

-- one bit of one word, unless it lies past the last of n states
abbrev pub At : ℕ → ℕ → ℕ → ℕ → ℕ → Type 0
At row column n i k = (i ≡ row) × (k ≡ column) × (k < n)

pub past_at : {row column n : ℕ} (old : List ℕ) → n ≤ column → Added (At row column n) old old
past_at old h = added_none old (λ i k l (p, q, r). omega arith)

pub put_at : {row column n : ℕ} (old : List ℕ) → length old ≡ 1024 → row < 1024 → n ≤ 64 → column < n → Added (At row column n) old (set old row (with_bit (get_or old row 0) column))
put_at {row} {column} {n} old long inside few h = record { long = length-set old row (with_bit (get_or old row 0) column); tells = λ i k l. go i k (ℕ_discrete i row) }
  where
    new : List ℕ
    new = set old row (with_bit (get_or old row 0) column)

    go : (i k : ℕ) → Dec (i ≡ row) → Tells (bit (get_or (set old row (with_bit (get_or old row 0) column)) i 0) k) ((bit (get_or old i 0) k ≡ true) ⊎ At row column n i k)
    go i k (yes e) =
        let there : bit (get_or (set old row (with_bit (get_or old row 0) column)) row 0) k ≡ (bit (get_or old row 0) k || eqb k column) =
        ap (λ (w : ℕ). bit w k) (get_or-set_same old row (with_bit (get_or old row 0) column) 0 (omega arith)) ∙ with_bit_lem (get_or old row 0) column k (omega arith) in
        rw (e, there) (tells_as (λ x. same x) (λ x. back x) (or_tells (tells_self (bit (get_or old row 0) k)) (eqb_tells k column)))
      where
        same : (bit (get_or old row 0) k ≡ true) ⊎ (k ≡ column) → (bit (get_or old row 0) k ≡ true) ⊎ At row column n row k
        same (inl x) = inl x
        same (inr q) = inr (refl, q, omega arith)

        back : (bit (get_or old row 0) k ≡ true) ⊎ At row column n row k → (bit (get_or old row 0) k ≡ true) ⊎ (k ≡ column)
        back (inl x) = inl x
        back (inr (p, q, r)) = inr q
    go i k (no ne) =
        rw (get_or-set_other old row i (with_bit (get_or old row 0) column) 0 ne) (tells_as inl (either_none (λ (p, q, r). ne p)) (tells_self (bit (get_or old i 0) k)))
