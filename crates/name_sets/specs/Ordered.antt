-- sets of names by the order of their numbers: as marks by place, the lowest, and the numbers below one
use Rattle.std.specs.Prelude.{◌≡◌, refl, Bool, true, List, ℕ, ◌+◌, ◌*◌, ◌/◌, ◌%◌, ◌<◌, ◌≤◌, eqb, ltb, get_or}
use Rattle.std.proofs.Common.{ap, subst, ◌∙◌, sym, eq-eqb, eqb-true}
use Rattle.std.proofs.Math.Bool.{false}
use Rattle.std.proofs.Math.Decide.{dec_lt}
use native.Mathlib.Omega.{arith}
use Rattle.verdict.specs.Tells.{Tells, same_test}
use Rattle.bits.specs.Bits.{bit, no_bit}
use Rattle.bits.specs.LowestBit.{LowestBit}
use Rattle.name_sets.specs.NameSets.{word, holds, Marks, Shared, by_word}
use Rattle.name_sets.specs.declared.Names.{Names}

-- number i is in the set just where place i of the list is marked
abbrev pub Bits : Names → List Bool → Type 0
Bits n l = (i : ℕ) → i < 256 → holds n i ≡ get_or l i false

-- the lowest number of a set, 256 where it has none
pub record Lowest (n : Names) (r : ℕ) : Type 0 where
  pub small : r ≤ 256
  pub has : r < 256 → holds n r ≡ true
  pub none_below : (c : ℕ) → c < r → holds n c ≡ false

-- it is the lowest bit of the first word that is not 0
module _ (n : Names) (i : ℕ) (w0 : 0 < i → n.0 ≡ 0) (w1 : 1 < i → n.1 ≡ 0) (w2 : 2 < i → n.2 ≡ 0) (w3 : 3 < i → n.3 ≡ 0) where
  zeros : (j : ℕ) → j < 4 → j < i → word n j ≡ 0
  zeros = by_word (λ j. j < i → word n j ≡ 0) w0 w1 w2 w3

  pub lowest_in : i < 4 → (k : ℕ) → LowestBit (word n i) k → (r : ℕ) → r ≡ 64 * i + k → Lowest n r
  unfolding holds
  lowest_in h k l r q = record {
    small = let s = l.small in omega arith;
    has = λ _. let s = l.small in
        let a : r / 64 ≡ i = omega arith in
        let b : r % 64 ≡ k = omega arith in
        rw (a, b) l.stands;
    none_below = λ c m. go c m (dec_lt (c / 64) i);
  }
    where
      go : (c : ℕ) → c < r → Dec (c / 64 < i) → bit (word n (c / 64)) (c % 64) ≡ false
      go c m (yes z) = rw (zeros (c / 64) (omega arith) z) (no_bit (c % 64))
      go c m (no z) =
          let s = l.small in
          let a : c / 64 ≡ i = omega arith in
          rw a (l.none_below (c % 64) (omega arith))

  pub lowest_none : 4 ≤ i → Lowest n 256
  unfolding holds
  lowest_none h = record {
    small = omega arith;
    has = λ m. absurd (omega arith);
    none_below = λ c m. rw (zeros (c / 64) (omega arith) (omega arith)) (no_bit (c % 64));
  }

-- a word whose bits say which numbers from `from` on lie below k
abbrev pub LowWord : ℕ → ℕ → ℕ → Type 0
LowWord k from w = (i : ℕ) → i < 64 → bit w i ≡ ltb (from + i) k

pub below_marks : (n : Names) (k : ℕ) → LowWord k 0 n.0 → LowWord k 64 n.1 → LowWord k 128 n.2 → LowWord k 192 n.3 → Marks n (λ x. ltb x k)
unfolding holds
below_marks n k a b c d x h =
    by_word (λ i. LowWord k (64 * i) (word n i)) a b c d (x / 64) (omega arith) (x % 64) (omega arith)
    ∙ ap (λ (y : ℕ). ltb y k) (omega arith)

-- to meet a set of one number is to have it
pub meets_one : (n own : Names) (x : ℕ) → x < 256 → Marks own (λ y. eqb y x) → (b : Bool) → Tells b (Shared n own) → b ≡ holds n x
meets_one n own x h one b m = same_test m (record { says = λ z. (x, h, z, one x h ∙ eq-eqb x x refl); holds = λ (y, l, u, w). out y l u w })
  where
    out : (y : ℕ) → y < 256 → holds n y ≡ true → holds own y ≡ true → holds n x ≡ true
    out y l u w = subst (λ (z : ℕ). holds n z ≡ true) (eqb-true y x (sym (one y l) ∙ w)) u
