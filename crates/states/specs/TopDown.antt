-- a word that a loop makes from the last state down: what it has so far is the word of the states from s on, moved down to bit 0
use Rattle.std.specs.Prelude.{◌≡◌, ℕ, zero, suc, ◌+◌, ◌-◌, ◌^◌, ◌<◌, ◌≤◌}
use Rattle.std.proofs.Math.Path.{refl}
use Rattle.std.proofs.Common.{pow-suc}
use native.Mathlib.Omega.{arith}
use Rattle.formula.specs.Shape.{nu}
use Rattle.meaning.specs.States.{StateSet, start}
use Rattle.states.specs.Words.{word}
use Rattle.states.specs.WordLaws.{one_small}

-- the states from m on
abbrev pub from : ℕ → StateSet → StateSet
from m A = λ k. A (m + k)

pub record Upper (n : ℕ) (A : StateSet) (s r : ℕ) : Type 0 where
  pub within : s ≤ n
  pub is : r ≡ word (n - s) (from s A)

pub word_small : (n : ℕ) (A : StateSet) → word n A < 2 ^ n
unfolding word
word_small zero A = omega arith
word_small (suc n) A = omega (arith, word_small n (λ s. A (suc s)), one_small (A 0), pow-suc 2 n)

module _ {n : ℕ} {A : StateSet} where
  pub upper_none : Upper n A n 0
  unfolding word
  upper_none =
      let none : n - n ≡ 0 = omega arith in
      record { within = omega arith; is = rw none refl }

-- all of n states
pub full_word : (n : ℕ) → word n (start nu) + 1 ≡ 2 ^ n
unfolding word start
full_word zero = omega arith
full_word (suc n) = omega (arith, full_word n, pow-suc 2 n)
