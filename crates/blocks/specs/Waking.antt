-- those of the block that read an entry wait to be formed
use Rattle.std.specs.Prelude.{◌≡◌, refl, List, Bool, ◌||◌, ◌&&◌, ℕ, ◌+◌, ◌*◌, ◌/◌, ◌%◌, ◌<◌, length, get_or}
use Rattle.std.proofs.Common.{ap, ◌∙◌, arith}
use Rattle.std.specs.Int.Bits.{bit_and, bit_or}
use Rattle.bits.specs.Bits.{bit, or_bit, and_bit}
use Rattle.states.specs.Fill.{Filled}
use Rattle.bits.specs.WordSet.{in_set}
use Rattle.entry_sets.specs.Sets.{by_words}

-- a word of the waiting set, with those of the block that read e
unfoldable pub woken_word : List ℕ → List ℕ → ℕ → List ℕ → ℕ → ℕ
woken_word us bs e qs i = bit_or (get_or qs i 0) (bit_and (get_or us (4 * e + i) 0) (get_or bs i 0))

pub record Woken (us bs : List ℕ) (e : ℕ) (qs rs : List ℕ) : Type 0 where
  pub long : length rs ≡ 4
  pub waits : (c : ℕ) → c < 256 → in_set rs c ≡ (in_set qs c || (in_set us (256 * e + c) && in_set bs c))

pub woken : (us bs : List ℕ) (e : ℕ) (qs rs : List ℕ) → length qs ≡ 4 → Filled (woken_word us bs e qs) qs 4 rs → Woken us bs e qs rs
unfolding woken_word in_set
woken us bs e qs rs l F =
    record {
      long = F.long ∙ l;
      waits = by_words qs rs (woken_word us bs e qs) F l _ (λ c h.
          let p : (256 * e + c) / 64 ≡ 4 * e + c / 64 = omega arith in
          let q : (256 * e + c) % 64 ≡ c % 64 = omega arith in
          or_bit (get_or qs (c / 64) 0) (bit_and (get_or us (4 * e + c / 64) 0) (get_or bs (c / 64) 0)) (c % 64)
          ∙ ap (λ (z : Bool). bit (get_or qs (c / 64) 0) (c % 64) || z) (and_bit (get_or us (4 * e + c / 64) 0) (get_or bs (c / 64) 0) (c % 64))
          ∙ rw (p, q) refl);
    }

pub woken_word_lem : (us bs : List ℕ) (e : ℕ) (qs : List ℕ) (i : ℕ) (rs : List ℕ) → Filled (woken_word us bs e qs) qs i rs
    → bit_or (get_or rs i 0) (bit_and (get_or us (4 * e + i) 0) (get_or bs i 0)) ≡ woken_word us bs e qs i
unfolding woken_word
woken_word_lem us bs e qs i rs F = ap (λ (x : ℕ). bit_or x (bit_and (get_or us (4 * e + i) 0) (get_or bs i 0))) (F.above i (omega arith))
