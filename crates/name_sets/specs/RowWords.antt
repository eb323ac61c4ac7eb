-- sets of names as rows of a list of words, four words to a row: a row that is written is read again, and no other changes
use Rattle.std.specs.Prelude.{◌≡◌, refl, List, ℕ, ◌+◌, ◌*◌, ◌/◌, ◌<◌, length, get_or, set}
use Rattle.std.proofs.Common.{◌∙◌, arith, length-set, get_or-set_same, get_or-set_other}
use Rattle.name_sets.specs.declared.Names.{Names}

abbrev pub row_of : List ℕ → ℕ → Names
row_of l e = record { 0 = get_or l (4 * e) 0; 1 = get_or l (4 * e + 1) 0; 2 = get_or l (4 * e + 2) 0; 3 = get_or l (4 * e + 3) 0 }

abbrev pub with_row : List ℕ → ℕ → Names → List ℕ
with_row l e n = set (set (set (set l (4 * e) n.0) (4 * e + 1) n.1) (4 * e + 2) n.2) (4 * e + 3) n.3

module _ (l : List ℕ) (e : ℕ) (n : Names) where
  abbrev one : List ℕ
  one = set l (4 * e) n.0

  abbrev two : List ℕ
  two = set one (4 * e + 1) n.1

  abbrev three : List ℕ
  three = set two (4 * e + 2) n.2

  pub length_row : length (with_row l e n) ≡ length l
  length_row = simp length-set

  word_other : (i : ℕ) → (i / 4 ≡ e → ⊥) → get_or (with_row l e n) i 0 ≡ get_or l i 0
  word_other i ne =
      get_or-set_other three (4 * e + 3) i n.3 0 (λ q. ne (omega arith))
      ∙ get_or-set_other two (4 * e + 2) i n.2 0 (λ q. ne (omega arith))
      ∙ get_or-set_other one (4 * e + 1) i n.1 0 (λ q. ne (omega arith))
      ∙ get_or-set_other l (4 * e) i n.0 0 (λ q. ne (omega arith))

  pub row_other : (d : ℕ) → (d ≡ e → ⊥) → row_of (with_row l e n) d ≡ row_of l d
  row_other d ne =
      rw (
        word_other (4 * d) (λ q. ne (omega arith)),
        word_other (4 * d + 1) (λ q. ne (omega arith)),
        word_other (4 * d + 2) (λ q. ne (omega arith)),
        word_other (4 * d + 3) (λ q. ne (omega arith)),
      )
      refl

  pub row_same : 4 * e + 3 < length l → row_of (with_row l e n) e ≡ n
  row_same h = rw (word_0, word_1, word_2, word_3) refl
    where
      past_2 : (i : ℕ) → (i < 4 * e + 2) → get_or (with_row l e n) i 0 ≡ get_or two i 0
      past_2 i k = get_or-set_other three (4 * e + 3) i n.3 0 (λ q. omega arith) ∙ get_or-set_other two (4 * e + 2) i n.2 0 (λ q. omega arith)

      word_0 : get_or (with_row l e n) (4 * e) 0 ≡ n.0
      word_0 = past_2 (4 * e) (omega arith) ∙ get_or-set_other one (4 * e + 1) (4 * e) n.1 0 (λ q. omega arith) ∙ get_or-set_same l (4 * e) n.0 0 (omega arith)

      word_1 : get_or (with_row l e n) (4 * e + 1) 0 ≡ n.1
      word_1 = past_2 (4 * e + 1) (omega arith) ∙ get_or-set_same one (4 * e + 1) n.1 0 (simp length-set (omega arith))

      word_2 : get_or (with_row l e n) (4 * e + 2) 0 ≡ n.2
      word_2 = get_or-set_other three (4 * e + 3) (4 * e + 2) n.3 0 (λ q. omega arith) ∙ get_or-set_same two (4 * e + 2) n.2 0 (simp length-set (omega arith))

      word_3 : get_or (with_row l e n) (4 * e + 3) 0 ≡ n.3
      word_3 = get_or-set_same three (4 * e + 3) n.3 0 (simp length-set h)
