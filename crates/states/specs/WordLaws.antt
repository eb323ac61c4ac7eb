-- bit s of a word says whether state s is in its set; there is a word for each entry and no other
use Rattle.std.specs.Prelude.{◌≡◌, refl, Bool, true, false, ℕ, zero, suc, ◌+◌, ◌*◌, ◌/◌, ◌%◌, ◌^◌, ◌<◌, ◌≤◌, eqb, length, get_or}
use Rattle.std.proofs.Common.{sym, ap, ◌∙◌, le_of_suc-le-suc, arith, pow_pos, shr-shr}
use Rattle.std.proofs.Math.Nat.{div-eq_of_lt}
use Rattle.verdict.specs.Lists.{values_from_length, values_from_at}
use Rattle.formula.specs.Table.{Table}
use Rattle.meaning.specs.States.{Model, StateSet}
use Rattle.meaning.specs.Meaning.{own}
use Rattle.bits.specs.Bits.{one, digit, bit}
use Rattle.states.specs.Words.{word, words}

digit_first : (a w : ℕ) → a < 2 → digit (a + 2 * w) 0 ≡ a
digit_first a w h = omega arith

digit_next : (a w k : ℕ) → a < 2 → digit (a + 2 * w) (suc k) ≡ digit w k
digit_next a w k h =
    let next : suc k ≡ 1 + k = omega arith in
    let half : (a + 2 * w) / 2 ^ 1 ≡ w = omega arith in
    ap (λ (n : ℕ). (a + 2 * w) / 2 ^ n % 2) next
    ∙ ap (λ (n : ℕ). n % 2) (sym (shr-shr (a + 2 * w) 1 k))
    ∙ ap (λ (n : ℕ). n / 2 ^ k % 2) half

pub one_small : (b : Bool) → one b < 2
one_small true = omega arith
one_small false = omega arith

one_test : (b : Bool) → eqb (one b) 1 ≡ b
one_test true = refl
one_test false = refl

-- bit s for state s
pub word_inside : (n : ℕ) (A : StateSet) (s : ℕ) → s < n → bit (word n A) s ≡ A s
unfolding word bit
word_inside zero A s h = absurd (omega arith)
word_inside (suc n) A zero h = ap (λ (d : ℕ). eqb d 1) (digit_first (one (A 0)) _ (one_small (A 0))) ∙ one_test (A 0)
word_inside (suc n) A (suc s) h =
    ap (λ (d : ℕ). eqb d 1) (digit_next (one (A 0)) (word n (λ u. A (suc u))) s (one_small (A 0)))
    ∙ word_inside n (λ u. A (suc u)) s (le_of_suc-le-suc h)

-- all bits past the last state zero
pub word_past : (n : ℕ) (A : StateSet) (s : ℕ) → n ≤ s → bit (word n A) s ≡ false
unfolding word bit
word_past zero A s h = ap (λ (d : ℕ). eqb d 1) (ap (λ (d : ℕ). d % 2) (div-eq_of_lt (pow_pos s)))
word_past (suc n) A zero h = absurd (omega arith)
word_past (suc n) A (suc s) h =
    ap (λ (d : ℕ). eqb d 1) (digit_next (one (A 0)) (word n (λ u. A (suc u))) s (one_small (A 0)))
    ∙ word_past n (λ u. A (suc u)) s (le_of_suc-le-suc h)

-- one word for each entry
pub words_length : (M : Model) (t : Table) → length (words M t) ≡ length t
unfolding words
words_length M t = values_from_length _ 0 (length t)

-- the word of an entry is its own meaning
pub words_at : (M : Model) (t : Table) (e : ℕ) → e < length t → get_or (words M t) e 0 ≡ word M.size (own M t e)
unfolding words
words_at M t e h = values_from_at _ 0 0 (length t) e h ∙ ap (λ (x : ℕ). word M.size (own M t x)) (omega arith)
