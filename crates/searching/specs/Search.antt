-- what the search for an entry of the same form finds, and the marks that spare it
use Rattle.std.specs.Prelude.{◌≡◌, refl, ◌≢◌, ◌⊎◌, false, ◌||◌, List, ℕ, ◌+◌, ◌*◌, ◌%◌, ◌<◌, ◌≤◌, eqb, ltb, leb, length, get_or}
use Rattle.std.proofs.Common.{inl, inr, arith, lt-ltb, le-ltb, le-leb}
use Rattle.std.proofs.lemmas.Bool.{lt-leb}
use Rattle.verdict.specs.Tests.{choose}
use Rattle.formula.specs.Kind
use Rattle.bits.specs.WordSet.{in_set}
use Rattle.one_level.specs.Fit.{cell, Fit}

-- the tables have room for n entries
pub record Room (n : ℕ) (ts us vs bs rs : List ℕ) : Type 0 where
  pub small : n ≤ 256
  pub totals : length ts ≡ 256
  pub bounds : length bs ≡ 256
  pub firsts : 4 * n ≤ length us
  pub seconds : 4 * n ≤ length vs
  pub cells : 256 * n ≤ length rs

-- f stands with k names bound and is the same form as e one level down: i and j names are bound in the operands of e
pub record Candidate (ks xs ys ts us vs bs rs : List ℕ) (k i j e f : ℕ) : Type 0 where
  pub from : get_or bs f 0 ≤ k
  pub upto : k ≤ get_or ts f 0
  pub fit : Fit ks xs ys ts rs us vs k i j e f

-- the first of n that is one, or n
pub record Found (n : ℕ) (C : ℕ → Type 0) (r : ℕ) : Type 0 where
  pub within : r ≤ n
  pub is_one : r < n → C r
  pub none_before : (f : ℕ) → f < r → C f → ⊥

-- the number that one of them has, or there is none
abbrev pub Searched : ℕ → (ℕ → Type 0) → (ℕ → ℕ) → ℕ → ℕ → Type 0
Searched n C number e v = ((f : ℕ) × (f < n) × C f × (v ≡ number f)) ⊎ (((f : ℕ) → f < n → C f → ⊥) × (v ≡ e))

-- a name with k names bound: bound itself, or written out
pub record NameNumber (rs : List ℕ) (k x v : ℕ) : Type 0 where
  pub written_out : k ≡ 0 → v ≡ cell rs 0 x
  pub bound : k ≢ 0 → v ≡ 255

-- the mark of an entry of kind k and fields x and y, n and m the numbers of its operands
abbrev pub mark_in_lem : ℕ → ℕ → ℕ → ℕ → ℕ → ℕ
mark_in_lem k x y n m =
    choose (ltb k Kind.LETTER) k
    (choose (ltb k Kind.OR) ((53 * k + x) % 512)
    (choose (leb k Kind.AND) ((53 * k + n + 37 * m) % 512)
    (choose (leb k Kind.BOX) ((53 * k + n + 37 * y) % 512) ((53 * k + n) % 512))))

module _ (k x y n m : ℕ) where
  pub mark_constant : k < Kind.LETTER → mark_in_lem k x y n m ≡ k
  mark_constant h = rw (lt-ltb k Kind.LETTER h) refl

  pub mark_letter : Kind.LETTER ≤ k → k < Kind.OR → mark_in_lem k x y n m ≡ (53 * k + x) % 512
  mark_letter h l = rw (le-ltb k Kind.LETTER h, lt-ltb k Kind.OR l) refl

  pub mark_two : Kind.OR ≤ k → k ≤ Kind.AND → mark_in_lem k x y n m ≡ (53 * k + n + 37 * m) % 512
  mark_two h l = rw (le-ltb k Kind.LETTER (omega arith), le-ltb k Kind.OR h, le-leb k Kind.AND l) refl

  pub mark_step : Kind.DIAMOND ≤ k → k ≤ Kind.BOX → mark_in_lem k x y n m ≡ (53 * k + n + 37 * y) % 512
  mark_step h l = rw (le-ltb k Kind.LETTER (omega arith), le-ltb k Kind.OR (omega arith), lt-leb k Kind.AND h, le-leb k Kind.BOX l) refl

  pub mark_one : Kind.MU ≤ k → mark_in_lem k x y n m ≡ (53 * k + n) % 512
  mark_one h = rw (le-ltb k Kind.LETTER (omega arith), le-ltb k Kind.OR (omega arith), lt-leb k Kind.AND (omega arith), lt-leb k Kind.BOX h) refl

-- the mark of entry e, i and j names bound in its operands
abbrev pub mark_of : List ℕ → List ℕ → List ℕ → List ℕ → ℕ → ℕ → ℕ → ℕ
mark_of ks xs ys rs i j e = mark_in_lem (get_or ks e 0) (get_or xs e 0) (get_or ys e 0) (cell rs i (get_or xs e 0)) (cell rs j (get_or ys e 0))

-- the number v for e with k names bound, ss having the marks before and ns those after
pub record Chosen (ks xs ys : List ℕ) (n : ℕ) (ts us vs bs rs ss ns : List ℕ) (k e v : ℕ) : Type 0 where
  pub mark_count : length ns ≡ length ss
  pub of_name : get_or ks e 0 ≡ Kind.NAME → NameNumber rs k (get_or xs e 0) v × (ns ≡ ss)
  pub of_formula : get_or ks e 0 ≢ Kind.NAME →
      let i = get_or bs (get_or xs e 0) 0 in
      let j = get_or bs (get_or ys e 0) 0 in
      let place = 512 * k + mark_of ks xs ys rs i j e in
      ((d : ℕ) → in_set ns d ≡ (in_set ss d || eqb d place))
      × (((in_set ss place ≡ false) × (v ≡ e)) ⊎ Searched n (Candidate ks xs ys ts us vs bs rs k i j e) (cell rs k) e v)

module _ {ks xs ys : List ℕ} {n : ℕ} {ts us vs bs rs ss ns : List ℕ} {k e v : ℕ} (long : length ns ≡ length ss) where
  pub chosen_name : get_or ks e 0 ≡ Kind.NAME → NameNumber rs k (get_or xs e 0) v → ns ≡ ss
      → Chosen ks xs ys n ts us vs bs rs ss ns k e v
  chosen_name q h m = record { mark_count = long; of_name = λ _. (h, m); of_formula = λ no. absurd (no q) }

  module _ (no : get_or ks e 0 ≢ Kind.NAME) {i j m : ℕ} (I : i ≡ get_or bs (get_or xs e 0) 0) (J : j ≡ get_or bs (get_or ys e 0) 0)
      (M : m ≡ mark_of ks xs ys rs i j e) (marks : (d : ℕ) → in_set ns d ≡ (in_set ss d || eqb d (512 * k + m))) where
    pub chosen_unseen : in_set ss (512 * k + m) ≡ false → v ≡ e → Chosen ks xs ys n ts us vs bs rs ss ns k e v
    chosen_unseen u z = record {
      mark_count = long;
      of_name = λ q. absurd (no q);
      of_formula = λ _. rw (← I, ← J, ← M) (marks, inl (u, z));
    }

    pub chosen_searched : Searched n (Candidate ks xs ys ts us vs bs rs k i j e) (cell rs k) e v
        → Chosen ks xs ys n ts us vs bs rs ss ns k e v
    chosen_searched h = record {
      mark_count = long;
      of_name = λ q. absurd (no q);
      of_formula = λ _. rw (← I, ← J, ← M) (marks, inr h);
    }
