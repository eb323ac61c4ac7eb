-- a word is that of a set just where its bits are the set's
use Rattle.std.specs.Prelude.{◌≡◌, refl, false, ◌&&◌, ℕ, ◌<◌, ◌≤◌, ltb}
use Rattle.std.proofs.Common.{◌∙◌, sym, arith, lt-ltb, le-ltb}
use Rattle.std.proofs.Math.Decide.{dec_lt}
use Rattle.meaning.specs.States.{StateSet, SameStates}
use Rattle.bits.specs.Bits.{bit}
use Rattle.states.specs.Words.{word}
use Rattle.states.specs.WordLaws.{word_inside, word_past}
use Rattle.states.specs.BitLaws.{bits_same}
use Rattle.states.specs.StateWords.{IsWord}

pub word-is : (n : ℕ) (A : StateSet) → IsWord n A (word n A)
word-is n A k = go (dec_lt k n)
  where
    go : Dec (k < n) → bit (word n A) k ≡ (ltb k n && A k)
    go (yes h) = word_inside n A k h ∙ sym (rw (lt-ltb k n h) refl)
    go (no h) = word_past n A k (omega arith) ∙ sym (rw (le-ltb k n (omega arith)) refl)

pub is_word : (n : ℕ) (A : StateSet) (w : ℕ) → IsWord n A w → w ≡ word n A
is_word n A w h = bits_same w (word n A) (λ k. h k ∙ sym (word-is n A k))

-- by the states below n and the bits past them
pub by_bits : (n : ℕ) (A : StateSet) (w : ℕ) → SameStates n (bit w) A → ((s : ℕ) → n ≤ s → bit w s ≡ false) → w ≡ word n A
by_bits n A w h past = is_word n A w (λ k. go k (dec_lt k n))
  where
    go : (k : ℕ) → Dec (k < n) → bit w k ≡ (ltb k n && A k)
    go k (yes l) = h k l ∙ sym (rw (lt-ltb k n l) refl)
    go k (no l) = past k (omega arith) ∙ sym (rw (le-ltb k n (omega arith)) refl)

pub word_same : (n : ℕ) (A B : StateSet) → SameStates n A B → word n A ≡ word n B
word_same n A B h = by_bits n B (word n A) (λ s l. word_inside n A s l ∙ h s l) (word_past n A)
