-- parsers that take a fixed number of bytes, whatever these are
use Rattle.std.specs.Prelude.{◌≡◌, refl, List, [], ◌∷◌, Bool, true, false, ℕ, ◌+◌, ◌<◌, ◌≤◌, length}
use Rattle.std.proofs.Common.{ap, arith}
use Rattle.std.proofs.Math.Decide.{dec_lt}
use Rattle.encoding.specs.Parse.{fault, got, Parser, seq, via, part, word, double, byte, bytes, two, four}

pub record Takes {A : Type 0} (early : ℕ) (p : Parser A) (w : ℕ) : Type 0 where
  -- the file ends early: its length
  pub cut : (s : List ℕ) (at : ℕ) → length s < w → p s at ≡ fault early (at + length s)
  pub whole : (s : List ℕ) (at : ℕ) → w ≤ length s → (x : A) × (r : List ℕ) × (p s at ≡ got x r (at + w)) × (length s ≡ w + length r)

module _ {early : ℕ} {A B : Type 0} {p : Parser A} {w : ℕ} (T : Takes early p w) where
  pub via_takes : (f : A → B) → Takes early (via f p) w
  via_takes f = record {
    cut = λ s at h. rw (T.cut s at h) refl;
    whole = λ s at h. let (x, r, u, i) = T.whole s at h in (f x, r, rw u refl, i);
  }

  pub seq_takes : {q : A → Parser B} {v : ℕ} → ((x : A) → Takes early (q x) v) → Takes early (seq p q) (w + v)
  seq_takes {q} {v} S = record { cut = λ s at h. cut s at h (dec_lt (length s) w); whole = whole }
    where
      cut : (s : List ℕ) (at : ℕ) → length s < w + v → Dec (length s < w) → seq p q s at ≡ fault early (at + length s)
      cut s at h (yes l) = rw (T.cut s at l) refl
      cut s at h (no l) =
          let (x, r, u, i) = T.whole s at (omega arith) in
          let j : at + length s ≡ at + w + length r = omega arith in
          rw (j, u, (S x).cut r (at + w) (omega arith)) refl

      whole : (s : List ℕ) (at : ℕ) → w + v ≤ length s → (y : A × B) × (r : List ℕ) × (seq p q s at ≡ got y r (at + (w + v))) × (length s ≡ w + v + length r)
      whole s at h =
          let (x, r, u, i) = T.whole s at (omega arith) in
          let (y, t, k, j) = (S x).whole r (at + w) (omega arith) in
          let z : at + (w + v) ≡ at + w + v = omega arith in
          ((x, y), t, rw (z, u, k) refl, omega arith)

-- no byte where the bit does not stand
pub part_takes : {early : ℕ} {A : Type 0} {p : Parser A} (blank : A) (w : Bool → ℕ) → Takes early p (w true) → w false ≡ 0 → (b : Bool) → Takes early (part blank b p) (w b)
part_takes blank w T e true = T
part_takes blank w T e false = record {
  cut = λ s at h. absurd (omega arith);
  whole = λ s at h. (blank, s, ap (λ (o : ℕ). got blank s o) (omega arith), omega arith);
}

module _ (early : ℕ) where
  pub byte_takes : Takes early (byte early) 1
  byte_takes = record { cut = cut; whole = whole }
    where
      cut : (s : List ℕ) (at : ℕ) → length s < 1 → byte early s at ≡ fault early (at + length s)
      cut [] at h = ap (λ (q : ℕ). fault early q) (omega arith)
      cut (x ∷ s) at h = absurd (omega arith)

      whole : (s : List ℕ) (at : ℕ) → 1 ≤ length s → (x : ℕ) × (r : List ℕ) × (byte early s at ≡ got x r (at + 1)) × (length s ≡ 1 + length r)
      whole [] at h = absurd (omega arith)
      whole (x ∷ s) at h = (x, s, ap (λ (o : ℕ). got x s o) (omega arith), omega arith)

  pub bytes_take : Takes early (bytes early) 2
  bytes_take = seq_takes byte_takes (λ _. byte_takes)

  pub two_takes : Takes early (two early) 2
  two_takes = via_takes bytes_take word

  pub four_takes : Takes early (four early) 4
  four_takes = via_takes (seq_takes two_takes (λ _. two_takes)) double
