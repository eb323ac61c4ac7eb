-- the rows hold no bits past the last state, and words over them are those of the model
use Rattle.std.specs.Prelude.{◌≡◌, refl, List, Bool, true, false, ℕ, ◌+◌, ◌*◌, ◌/◌, ◌%◌, ◌<◌, ◌≤◌, length, get_or, replicate}
use Rattle.std.proofs.Common.{ap, ◌∙◌, sym, true≢false, arith, ext_get_or, lt-ltb}
use Rattle.std.proofs.Math.Decide.{dec_lt}
use Rattle.formula.specs.Table.{Table}
use Rattle.formula.specs.Shape.{shape}
use Rattle.conditions.specs.WellFormed.{WellFormed}
use Rattle.meaning.specs.Meaning.{own}
use Rattle.meaning.specs.SameModels.{Acts, Agree}
use Rattle.meaning.proofs.SameModels.{own_agrees}
use Rattle.bits.specs.Bits.{bit, no_bit}
use Rattle.bits.specs.WordSet.{zeros_at}
use Rattle.states.specs.Words.{words}
use Rattle.states.specs.WordLaws.{word_inside, word_past, words_length, words_at}
use Rattle.states.specs.StateWords.{Inside}
use Rattle.states.proofs.StateWords.{word_same}
use Rattle.states.specs.PlainModel.{plain_model, words_in}
use Rattle.states.specs.Rows.{RowWords, row_model}

-- made from nothing
module _ (k : ℕ) {marks : List (List ℕ)} {used n : ℕ} {rows : List ℕ} (few : n ≤ 64) (R : RowWords marks used n (replicate k 0) 16 rows) where
  pub rows_inside : (m : ℕ) → Inside n m rows
  rows_inside m i u h past = go (dec_lt (i / 64) 16) (bit used (i / 64)) refl (dec_lt (i % 64) n)
    where
      place : i ≡ 64 * (i / 64) + i % 64
      place = omega arith

      else : ((a s : ℕ) → a < 16 → bit used a ≡ true → s < n → i ≡ 64 * a + s → ⊥) → bit (get_or rows i 0) u ≡ false
      else none = ap (λ (w : ℕ). bit w u) (R.away i none ∙ zeros_at k i) ∙ no_bit u

      go : Dec (i / 64 < 16) → (b : Bool) → bit used (i / 64) ≡ b → Dec (i % 64 < n) → bit (get_or rows i 0) u ≡ false
      go (yes l) true b (yes t) =
          ap (λ (w : ℕ). bit w u) (ap (λ (j : ℕ). get_or rows j 0) place ∙ R.there (i / 64) (i % 64) l b t) ∙ word_past n _ u past
      go (yes l) true b (no t) = else (λ a s x y z e. t (omega arith))
      go (yes l) false b t = else (λ a s x y z e. let same : a ≡ i / 64 = omega arith in true≢false (sym y ∙ ap (bit used) same ∙ b))
      go (no l) c b t = else (λ a s x y z e. l (omega arith))

  -- where the map has every action of the table, they give its entries the words of the marks
  module _ (masks : List ℕ) (t : Table) (within : (e a : ℕ) → Acts (shape t e) a → (a < 16) × (bit used a ≡ true)) where
    agree : Agree t (row_model masks rows n) (plain_model masks marks n)
    agree = record {
      size = refl;
      letters = λ s p l. refl;
      successors = λ e a h s u l k. let (x, y) = within e a h in rw (R.there a s x y l, lt-ltb s n l, lt-ltb u n k) (word_inside n _ u k);
    }

    pub rows_words : WellFormed t → words (row_model masks rows n) t ≡ words_in masks marks n t
    rows_words wf =
        let M = row_model masks rows n in
        let N = plain_model masks marks n in
        ext_get_or 0 (words M t) (words N t) (words_length M t ∙ sym (words_length N t))
        (λ e h. let l : e < length t = omega (arith, words_length M t) in
        words_at M t e l ∙ word_same n (own M t e) (own N t e) (own_agrees agree wf e) ∙ sym (words_at N t e l))
