-- a parser is exact for an encoding: it reads what was encoded, and what it read was encoded
use Rattle.std.specs.Prelude.{◌≡◌, refl, List, [], ◌∷◌, ◌++◌, Bool, true, false, ℕ, ◌+◌, ◌*◌, ◌/◌, ◌%◌, ◌<◌, length}
use Rattle.std.proofs.Common.{sym, subst, ap, ◌∙◌, append_assoc, arith, length-append}
use Rattle.verdict.specs.Lists.{more}
use Rattle.verdict.specs.Tells.{Tells}
use Rattle.encoding.specs.Encode.{Bytes, OneByte, PairOfBytes, TwoBytes, encode_byte, encode_pair, encode_two, encode_part}
use Rattle.encoding.specs.Parse.{got, Parser, seq, guard, via, part, word, byte, bytes, two}
use Rattle.encoding.specs.GotLaws.{fault_not_got, same_value, same_left, got_place, bind_got, pick_got}

-- what a parser that got x from s was given
pub record Wrote {A : Type 0} (enc : A → List ℕ) (Ok : A → Type 0) (x : A) (s r : List ℕ) : Type 0 where
  pub fits : Ok x
  pub split : s ≡ enc x ++ r
  pub left : Bytes r

pub record Exact {A : Type 0} (p : Parser A) (enc : A → List ℕ) (Ok : A → Type 0) : Type 0 where
  pub reads : (x : A) → Ok x → (s : List ℕ) (at : ℕ) → p (enc x ++ s) at ≡ got x s (at + length (enc x))
  pub wrote : (s : List ℕ) (at : ℕ) (x : A) (r : List ℕ) (o : ℕ) → Bytes s → p s at ≡ got x r o → Wrote enc Ok x s r

-- where a parser that got something left off
pub left_off : {A : Type 0} {p : Parser A} {e : A → List ℕ} {P : A → Type 0} → Exact p e P
    → (s : List ℕ) (at : ℕ) (x : A) (r : List ℕ) (o : ℕ) → Bytes s → p s at ≡ got x r o → o ≡ at + length (e x)
left_off {p = p} X s at x r o b h =
    let W = X.wrote s at x r o b h in
    got_place (sym h ∙ ap (λ (t : List ℕ). p t at) W.split ∙ X.reads x W.fits r at)

-- the value and the rest by other names
wrote_as : {A : Type 0} {e : A → List ℕ} {P : A → Type 0} {x y : A} {s r t : List ℕ} → x ≡ y → r ≡ t → Wrote e P x s r → Wrote e P y s t
wrote_as {e = e} {P = P} {x = x} {s = s} {t = t} i j W = subst (λ y. Wrote e P y s t) i (subst (λ r. Wrote e P x s r) j W)

pub exact_as : {A : Type 0} {p : Parser A} {e : A → List ℕ} {P Q : A → Type 0} → ((x : A) → P x → Q x) → ((x : A) → Q x → P x) → Exact p e P → Exact p e Q
exact_as f g X = record {
  reads = λ x h. X.reads x (g x h);
  wrote = λ s at x r o b h. let W = X.wrote s at x r o b h in record { fits = f x W.fits; split = W.split; left = W.left };
}

module _ {A B : Type 0} {p : Parser A} {e : A → List ℕ} {P : A → Type 0} (X : Exact p e P) where
  pub seq_exact : {q : A → Parser B} {f : A → B → List ℕ} {Q : A → B → Type 0} → ((x : A) → P x → Exact (q x) (f x) (Q x))
      → Exact (seq p q) (λ w. e w.0 ++ f w.0 w.1) (λ w. P w.0 × Q w.0 w.1)
  seq_exact {q} {f} {Q} Y = record { reads = λ w h s at. reads w.0 w.1 h.0 h.1 s at; wrote = wrote }
    where
      reads : (x : A) (y : B) → P x → Q x y → (s : List ℕ) (at : ℕ) → seq p q ((e x ++ f x y) ++ s) at ≡ got (x, y) s (at + length (e x ++ f x y))
      reads x y h k s at =
          let i : at + length (e x ++ f x y) ≡ at + length (e x) + length (f x y) = omega (arith, length-append (e x) (f x y)) in
          rw (i, append_assoc (e x) (f x y) s, X.reads x h (f x y ++ s) at, (Y x h).reads y k s (at + length (e x))) refl

      wrote : (s : List ℕ) (at : ℕ) (w : A × B) (r : List ℕ) (o : ℕ) → Bytes s → seq p q s at ≡ got w r o
          → Wrote (λ (w : A × B). e w.0 ++ f w.0 w.1) (λ (w : A × B). P w.0 × Q w.0 w.1) w s r
      wrote s at w r o b h =
          let one = bind_got (p s at) _ h in
          let ex = X.wrote s at _ _ _ b one.was in
          let two = bind_got (q one.first one.rest one.place) _ one.then in
          let ey = (Y one.first ex.fits).wrote _ _ _ _ _ ex.left two.was in
          wrote_as {x = (one.first, two.first)} (same_value two.then) (same_left two.then)
          (record {
            fits = (ex.fits, ey.fits);
            split = ex.split ∙ ap (λ (t : List ℕ). e one.first ++ t) ey.split ∙ sym (append_assoc (e one.first) _ _);
            left = ey.left;
          })

  pub via_exact : (f : A → B) (g : B → A) {d : B → List ℕ} {Q : B → Type 0}
      → ((y : B) → Q y → P (g y) × (f (g y) ≡ y) × (e (g y) ≡ d y))
      → ((x : A) → P x → Q (f x) × (e x ≡ d (f x)))
      → Exact (via f p) d Q
  via_exact f g {d} {Q} to from = record { reads = reads; wrote = wrote }
    where
      reads : (y : B) → Q y → (s : List ℕ) (at : ℕ) → via f p (d y ++ s) at ≡ got y s (at + length (d y))
      reads y h s at =
          let (k, i, j) = to y h in
          rw (← j, X.reads (g y) k s at, i) refl

      wrote : (s : List ℕ) (at : ℕ) (y : B) (r : List ℕ) (o : ℕ) → Bytes s → via f p s at ≡ got y r o → Wrote d Q y s r
      wrote s at y r o b h =
          let one = bind_got (p s at) _ h in
          let ex = X.wrote s at _ _ _ b one.was in
          let (k, j) = from one.first ex.fits in
          wrote_as {x = f one.first} (same_value one.then) (same_left one.then)
          (record { fits = k; split = ex.split ∙ ap (λ (t : List ℕ). t ++ one.rest) j; left = ex.left })

module _ {A : Type 0} {p : Parser A} {e : A → List ℕ} where
  pub guard_exact : {P : A → Type 0} → Exact p e P → (n : ℕ) {ok : A → Bool} {Q : A → Type 0} → ((x : A) → Tells (ok x) (Q x)) → Exact (guard ok n p) e (λ x. P x × Q x)
  guard_exact {P} X n {ok} {Q} T = record { reads = λ x h s at. rw (X.reads x h.0 s at, (T x).holds h.1) refl; wrote = wrote }
    where
      wrote : (s : List ℕ) (at : ℕ) (x : A) (r : List ℕ) (o : ℕ) → Bytes s → guard ok n p s at ≡ got x r o → Wrote e (λ (x : A). P x × Q x) x s r
      wrote s at x r o b h =
          let one = bind_got (p s at) _ h in
          let ex = X.wrote s at _ _ _ b one.was in
          let (t, v, l) = pick_got (ok one.first) one.first one.rest one.place n at one.then in
          wrote_as v l (record { fits = (ex.fits, (T one.first).says t); split = ex.split; left = ex.left })

  -- what fits where the bit does not stand is the blank alone
  pub part_exact : (P : Bool → A → Type 0) {blank : A} → Exact p e (P true) → P false blank → ((x : A) → P false x → x ≡ blank)
      → (b : Bool) → Exact (part blank b p) (encode_part b e) (P b)
  part_exact P X f g true = X
  part_exact P {blank} X f g false = record { reads = reads; wrote = wrote }
    where
      reads : (x : A) → P false x → (s : List ℕ) (at : ℕ) → got blank s at ≡ got x s (at + 0)
      reads x h s at = let i : at + 0 ≡ at = omega arith in rw (i, g x h) refl

      wrote : (s : List ℕ) (at : ℕ) (x : A) (r : List ℕ) (o : ℕ) → Bytes s → got blank s at ≡ got x r o → Wrote (encode_part false e) (P false) x s r
      wrote s at x r o b h = wrote_as (same_value h) (same_left h) (record { fits = f; split = refl; left = b })

module _ (early : ℕ) where
  pub byte_exact : Exact (byte early) encode_byte OneByte
  byte_exact = record { reads = λ x h s at. ap (λ (o : ℕ). got x s o) (omega arith); wrote = wrote }
    where
      wrote : (s : List ℕ) (at : ℕ) (x : ℕ) (r : List ℕ) (o : ℕ) → Bytes s → byte early s at ≡ got x r o → Wrote encode_byte OneByte x s r
      wrote [] at x r o b h = absurd (fault_not_got h)
      wrote (y ∷ s) at x r o (more k b) h = wrote_as (same_value h) (same_left h) (record { fits = k; split = refl; left = b })

  pub bytes_exact : Exact (bytes early) encode_pair PairOfBytes
  bytes_exact = seq_exact byte_exact (λ x h. byte_exact)

  pub two_exact : Exact (two early) encode_two TwoBytes
  two_exact = via_exact bytes_exact word (λ n. (n % 256, n / 256)) (λ n h. ((omega arith, omega arith), omega arith, refl))
      (λ w h. let u = h.0 in let v = h.1 in (omega arith, low w.0 w.1 u))
    where
      low : (x y : ℕ) → x < 256 → ◌≡◌ {A = List ℕ} (x ∷ y ∷ []) (encode_two (x + 256 * y))
      low x y h =
          let i : (x + 256 * y) % 256 ≡ x = omega arith in
          let j : (x + 256 * y) / 256 ≡ y = omega arith in
          rw (i, j) refl
