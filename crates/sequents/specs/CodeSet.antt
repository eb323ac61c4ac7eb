-- a set of codes, which are below 512, in eight words of 64 bits
use Rattle.std.specs.Prelude.{◌≡◌, refl, ◌≢◌, List, [], ◌∷◌, Bool, true, false, not, ◌||◌, ◌&&◌, ℕ, ◌+◌, ◌*◌, ◌-◌, ◌/◌, ◌%◌, ◌^◌, ◌<◌, ◌≤◌, length, get_or, set, replicate}
use Rattle.std.proofs.Math.Path.{ap, sym}
use Rattle.std.proofs.Common.{◌∙◌, le_refl, arith, get_or-set_same, get_or-set_other}
use Rattle.std.proofs.Math.Decide.{ℕ_discrete}
use Rattle.std.proofs.Math.Dec.{eqb}
use Rattle.std.proofs.lemmas.Nat.{or_lt, xor_lt}
use Rattle.std.specs.Int.Bits.{and_lt}
use Rattle.std.proofs.Math.ListN.{length-set}
use Rattle.std.proofs.lemmas.List.{length-replicate}
use Rattle.std.proofs.lemmas.Grind.{same_number_lists}
use Rattle.verdict.specs.Tests.{any, member, same, remove, each}
use Rattle.verdict.specs.Tells.{Tells, tells_as, fails_holds, eqb_tells, and_tells, not_tells, same_test}
use Rattle.verdict.specs.SetTells.{member_tells, lists_self, lists_remove}
use Rattle.verdict.proofs.SetTells.{same_tells}
use Rattle.sequents.specs.Part.{part, part_none, part_before}
use Rattle.bits.specs.WordLaws.{with_bit, without_bit, equal_bits}
use Rattle.bits.specs.WordSet.{in_set, zeros_at, none_in, place}
use Rattle.bits.proofs.WordSet.{in_inserted, in_removed}

-- the eight words w, of 64 bits each, hold what the list l holds
pub record Holds (w l : List ℕ) : Type 0 where
  pub eight : length w ≡ 8
  pub word : (i : ℕ) → get_or w i 0 < 2 ^ 64
  pub tells : (c : ℕ) → in_set w c ≡ member l c

-- no code is in eight words of no bit
pub holds_none : Holds (replicate 8 0) []
unfolding member any
holds_none = record {
  eight = length-replicate {A = ℕ} 8 0;
  word = λ i. omega (arith, zeros_at 8 i);
  tells = none_in 8;
}

or_comm : (a b : Bool) → (a || b) ≡ (b || a)
or_comm true true = refl
or_comm true false = refl
or_comm false true = refl
or_comm false false = refl

member_remove : (x c : ℕ) (l : List ℕ) → member (remove x l) c ≡ (member l c && not (eqb c x))
member_remove x c l =
    let s = lists_remove x l in
    same_test (tells_as (s.into c) (s.from c) (member_tells (remove x l) c)) (and_tells (member_tells l c) (not_tells (eqb_tells c x)))

-- the words with the code c more
abbrev pub inserted : List ℕ → ℕ → List ℕ
inserted w c = set w (c / 64) (with_bit (get_or w (c / 64) 0) (c % 64))

one_bit : (s : ℕ) → 1 * 2 ^ s % 2 ^ 64 < 2 ^ 64
one_bit s = omega arith

module _ (w l : List ℕ) (c : ℕ) (small : c < 512) (H : Holds w l) where
  within : c / 64 < length w
  within = omega (arith, H.eight)

  words : (x : ℕ) → x < 2 ^ 64 → (i : ℕ) → get_or (set w (c / 64) x) i 0 < 2 ^ 64
  words x h i = go (ℕ_discrete i (c / 64))
    where
      go : Dec (i ≡ c / 64) → get_or (set w (c / 64) x) i 0 < 2 ^ 64
      go (yes e) = rw (e, get_or-set_same w (c / 64) x 0 within) h
      go (no d) = rw (get_or-set_other w (c / 64) i x 0 d) (H.word i)

  pub holds_with : Holds (inserted w c) (c ∷ l)
  unfolding member any
  holds_with = record {
    eight = simp length-set H.eight;
    word = words _ (or_lt 64 _ _ (H.word (c / 64)) (one_bit (c % 64)));
    tells = λ d. in_inserted w c within d ∙ ap (λ (b : Bool). b || eqb d c) (H.tells d) ∙ or_comm (member l d) (eqb d c);
  }

  pub holds_without : Holds (set w (c / 64) (without_bit (get_or w (c / 64) 0) (c % 64))) (remove c l)
  holds_without = record {
    eight = simp length-set H.eight;
    word = words _ (xor_lt 64 _ _ (H.word (c / 64)) (and_lt 64 _ _ (H.word (c / 64)) (one_bit (c % 64))));
    tells = λ d. in_removed w c within d ∙ ap (λ (b : Bool). b && not (eqb d c)) (H.tells d) ∙ sym (member_remove c d l);
  }

-- equal as sets: the same members
same_members : (l m : List ℕ) → Tells (same l m) ((c : ℕ) → member l c ≡ member m c)
same_members l m = tells_as
    (λ s c. same_test (member_tells l c) (tells_as (s.from c) (s.into c) (member_tells m c)))
    (λ e. record { into = λ c h. (member_tells m c).says (sym (e c) ∙ (member_tells l c).holds h); from = λ c h. (member_tells l c).says (e c ∙ (member_tells m c).holds h) })
    (same_tells l (lists_self m))

module _ (x y l m : List ℕ) (X : Holds x l) (Y : Holds y m) where
  -- sets are the same where all their words are, and only there
  pub same_lists : Tells (same l m) (x ≡ y)
  same_lists = tells_as
      (λ e. same_number_lists x y (X.eight ∙ sym Y.eight) (λ i _. equal_bits 64 (get_or x i 0) (get_or y i 0) (X.word i) (Y.word i)
      (λ k b. sym (place x i k b) ∙ X.tells (64 * i + k) ∙ e (64 * i + k) ∙ sym (Y.tells (64 * i + k)) ∙ place y i k b)))
      (λ e c. sym (X.tells c) ∙ ap (λ (w : List ℕ). in_set w c) e ∙ Y.tells c)
      (same_members l m)

  -- the same words hold the same set
  pub same_words : ((i : ℕ) → i < 8 → get_or x i 0 ≡ get_or y i 0) → true ≡ same l m
  same_words e = sym (same_lists.holds (same_number_lists x y (X.eight ∙ sym Y.eight) (λ i h. e i (omega (arith, X.eight)))))

  -- sets of which one word differs are not the same
  pub other_words : (i : ℕ) → get_or x i 0 ≢ get_or y i 0 → false ≡ same l m
  other_words i n = sym (fails_holds same_lists (λ e. n (ap (λ (w : List ℕ). get_or w i 0) e)))

-- a set of values over a part, with the value at one place before
pub each_before : (g : ℕ → ℕ) (cs : List ℕ) (i j x : ℕ) {w : List ℕ} → 0 < i → i ≤ j → j ≤ length cs → x ≡ g (get_or cs (i - 1) 0)
    → Holds w (x ∷ each g (part cs i j)) → Holds w (each g (part cs (i - 1) j))
unfolding each
each_before g cs i j x p h k e H = rw (part_before cs i j p h k, ← e) H

pub each_end : (g : ℕ → ℕ) (cs : List ℕ) (i : ℕ) {w : List ℕ} → Holds w [] → Holds w (each g (part cs i i))
unfolding each
each_end g cs i H = rw (part_none cs i i (le_refl i)) H
