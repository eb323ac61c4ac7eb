-- each state more, from the last one down, and sixteen at a time, keep the word that of the states so far
use Rattle.std.specs.Prelude.{◌≡◌, Bool, true, false, ◌&&◌, ℕ, zero, suc, ◌+◌, ◌*◌, ◌-◌, ◌^◌, ◌<◌, ◌≤◌}
use Rattle.std.proofs.Math.Path.{refl}
use Rattle.std.proofs.Common.{ap, ◌∙◌, sym, pow-suc, zero-add, pow_mono}
use Rattle.std.proofs.Math.Nat.{add-zero}
use native.Mathlib.Omega.{arith}
use Rattle.std.specs.Int.Bits.{bit_and}
use Rattle.formula.specs.Shape.{nu}
use Rattle.meaning.specs.States.{StateSet, start}
use Rattle.bits.specs.Bits.{one, bit, and_bit}
use Rattle.states.specs.Words.{word}
use Rattle.states.specs.WordLaws.{word_inside, word_past}
use Rattle.states.proofs.StateWords.{word_same, by_bits}
use Rattle.states.specs.TopDown.{Upper, from, word_small}

-- a word is the words of the states below m and of those from m on
word_joined : (m n : ℕ) (A : StateSet) → word (m + n) A ≡ word m A + 2 ^ m * word n (from m A)
unfolding word
word_joined zero n A = rw (zero-add n) (omega (arith, word_same n (from 0 A) A (λ k l. ap A (omega arith))))
word_joined (suc m) n A =
    let next : suc m + n ≡ suc (m + n) = omega arith in
    let rest : word n (from m (λ s. A (suc s))) ≡ word n (from (suc m) A) = word_same n _ _ (λ k l. ap A (omega arith)) in
    rw (next, pow-suc) (omega (arith, rw rest at (word_joined m n (λ s. A (suc s)))))

module _ {n : ℕ} {A : StateSet} where
  module _ {s r : ℕ} (U : Upper n A s r) where
    -- where a word of n states has room in w bits, there is room for the next m of them
    pub upper_small : (m w : ℕ) → n ≤ w → m ≤ s → r < 2 ^ (w - m)
    upper_small m w h k =
        let less : 2 ^ (n - s) ≤ 2 ^ (w - m) = pow_mono (omega arith) in
        rw U.is (omega (arith, word_small (n - s) (from s A)))

    -- the next m states
    upper_next : (m q : ℕ) → m ≤ s → q ≡ word m (from (s - m) A) + 2 ^ m * r → Upper n A (s - m) q
    upper_next m q h e =
        let more : m + (n - s) ≡ n - (s - m) = omega (arith, U.within) in
        record {
          within = omega (arith, U.within);
          is =
              e
              ∙ ap (λ (x : ℕ). word m (from (s - m) A) + 2 ^ m * x) (U.is ∙ word_same (n - s) _ _ (λ k l. ap A (omega arith)))
              ∙ sym (word_joined m (n - s) (from (s - m) A))
              ∙ ap (λ (x : ℕ). word x (from (s - m) A)) more;
        }

    -- one state
    pub upper_one : (holds : Bool) (q : ℕ) → 0 < s → holds ≡ A (s - 1) → q ≡ one holds + 2 * r → Upper n A (s - 1) q
    unfolding word
    upper_one holds q h t e =
        let single : q ≡ word 1 (from (s - 1) A) + 2 ^ 1 * r = e ∙ rw t (simp add-zero (omega arith)) in
        upper_next 1 q h single

    -- sixteen states
    module _ {b : ℕ} (e : b ≡ word 16 (from (s - 16) A)) where
      pub sixteen_small : b < 65536
      sixteen_small = omega (arith, word_small 16 (from (s - 16) A))

      pub upper_sixteen : 16 ≤ s → Upper n A (s - 16) (r * 65536 + b)
      upper_sixteen h = upper_next 16 (r * 65536 + b) h (omega arith)

    pub upper_whole : s ≡ 0 → r ≡ word n A
    upper_whole z =
        let all : n - s ≡ n = omega arith in
        U.is ∙ rw all (word_same n (from s A) A (λ k l. ap A (omega arith)))

and-true : (b : Bool) → (b && true) ≡ b
and-true true = refl
and-true false = refl

and-false : (b : Bool) → (b && false) ≡ false
and-false true = refl
and-false false = refl

-- of the states of a word those below n
pub word_cut : (m n : ℕ) (A : StateSet) → n ≤ m → bit_and (word m A) (word n (start nu)) ≡ word n A
unfolding start
word_cut m n A h =
    by_bits n A (bit_and (word m A) (word n (start nu)))
    (λ s l. and_bit (word m A) (word n (start nu)) s ∙ rw (word_inside m A s (omega arith), word_inside n (start nu) s l) (and-true (A s)))
    (λ s l. and_bit (word m A) (word n (start nu)) s ∙ rw (word_past n (start nu) s l) (and-false (bit (word m A) s)))
