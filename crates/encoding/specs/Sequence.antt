-- parsers one after the other: the first that stops decides, and else all values are read
use Rattle.std.specs.Prelude.{◌≡◌, refl, List, ◌∷◌, ℕ, zero, suc, length}
use Rattle.std.proofs.Common.{sym, ap, ◌∙◌}
use Rattle.encoding.specs.Parse.{fault, got, Parser, seq, times}
use Rattle.encoding.specs.GotLaws.{same_value, bind_got}

module _ {A B : Type 0} (p : Parser A) (q : A → Parser B) (s : List ℕ) (at : ℕ) where
  pub seq_stops : {n k : ℕ} → p s at ≡ fault n k → seq p q s at ≡ fault n k
  seq_stops h = rw h refl

  module _ {x : A} {r : List ℕ} {o : ℕ} (h : p s at ≡ got x r o) where
    pub seq_stops_later : {n k : ℕ} → q x r o ≡ fault n k → seq p q s at ≡ fault n k
    seq_stops_later e = rw (h, e) refl

    pub seq_reads : {y : B} {t : List ℕ} {z : ℕ} → q x r o ≡ got y t z → seq p q s at ≡ got (x, y) t z
    seq_reads e = rw (h, e) refl

-- as many values are read as were asked for
pub times_many : {A : Type 0} (p : ℕ → Parser A) (next : ℕ → A → ℕ) (n c : ℕ) (s : List ℕ) (at : ℕ) {l : List A} {r : List ℕ} {o : ℕ}
    → times p next n c s at ≡ got l r o → length l ≡ n
unfolding times
times_many {A} p next zero c s at h = ap (λ (l : List A). length l) (sym (same_value h))
times_many {A} p next (suc n) c s at h =
    let one = bind_got (p c s at) _ h in
    let two = bind_got (times p next n (next c one.first) one.rest one.place) (λ l t z. got (one.first ∷ l) t z) one.then in
    ap (λ (l : List A). length l) (sym (same_value two.then)) ∙ ap suc (times_many p next n (next c one.first) one.rest one.place two.was)
