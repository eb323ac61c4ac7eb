-- parsers of lists are exact: values in sight of a number, and values that do not look at each other
use Rattle.std.specs.Prelude.{◌≡◌, Bool}
use Rattle.std.proofs.Math.Path.{refl, sym, subst, ap}
use Rattle.std.proofs.Common.{◌∙◌, arith}
use mathlib.Core.List.{List, [], ◌∷◌, ◌++◌, append_assoc}
use Prim.Native.Nat.{ℕ, zero, suc, ◌+◌, ◌≤◌}
use Rattle.std.proofs.Math.ListN.{length, length-append}
use Rattle.verdict.specs.Lists.{Each}
use Rattle.verdict.specs.Tells.{Tells, leb_tells, and_tells}
use Rattle.encoding.specs.Encode.{Bytes, encode_all, encode_counted, Counts}
use Rattle.encoding.specs.Parse.{got, Parser, times, counted, listed, fits_from, in_range, count}
use Rattle.encoding.specs.Chain.{Chain, ends, goes}
use Rattle.encoding.specs.ChainLaws.{chain_each, each_chain}
use Rattle.encoding.specs.GotLaws.{same_value, same_left, bind_got}
use Rattle.encoding.specs.ParseLaws.{Exact, Wrote, exact_as, guard_exact}

pub range_tells : (least top n : ℕ) → Tells (in_range least top n) (Counts least top n)
range_tells least top n = and_tells (leb_tells least n) (leb_tells n top)

pub count_exact : (least top k : ℕ) {p : Parser ℕ} {e : ℕ → List ℕ} {P : ℕ → Type 0} → Exact p e P → Exact (count least top k p) e (λ n. P n × Counts least top n)
count_exact least top k X = guard_exact X k (range_tells least top)

pub from_tells : {ok : ℕ → Bool} {Q : ℕ → Type 0} → ((x : ℕ) → Tells (ok x) (Q x)) → (c x : ℕ) → Tells (fits_from ok c x) ((c ≤ x) × Q x)
from_tells T c x = and_tells (leb_tells c x) (T x)

-- m values were read from s, with r left
abbrev Many : {A : Type 0} → (A → List ℕ) → (ℕ → A → Type 0) → (ℕ → A → ℕ) → ℕ → ℕ → List A → List ℕ → List ℕ → Type 0
Many {A} e P next m c l s r = Wrote (encode_all e) (λ (l : List A). (length l ≡ m) × Chain P next c l) l s r

module _ {A : Type 0} {p : ℕ → Parser A} {next : ℕ → A → ℕ} {e : A → List ℕ} {P : ℕ → A → Type 0} (X : (c : ℕ) → Exact (p c) e (P c)) where
  times_reads : (l : List A) (c : ℕ) → Chain P next c l → (s : List ℕ) (at : ℕ) → times p next (length l) c (encode_all e l ++ s) at ≡ got l s (at + length (encode_all e l))
  unfolding times encode_all
  times_reads [] c h s at = ap (λ (o : ℕ). got [] s o) (omega arith)
  times_reads (x ∷ l) c (goes h k) s at =
      let i : at + length (e x ++ encode_all e l) ≡ at + length (e x) + length (encode_all e l) = omega (arith, length-append (e x) (encode_all e l)) in
      rw (i, append_assoc (e x) (encode_all e l) s, (X c).reads x h (encode_all e l ++ s) at, times_reads l (next c x) k s (at + length (e x))) refl

  times_wrote : (m c : ℕ) (s : List ℕ) (at : ℕ) (l : List A) (r : List ℕ) (o : ℕ) → Bytes s → times p next m c s at ≡ got l r o → Many e P next m c l s r
  unfolding times encode_all
  times_wrote zero c s at l r o b h =
      let v : [] ≡ l = same_value h in
      let i : s ≡ r = same_left h in
      subst (λ (l : List A). Many e P next zero c l s r) v (record { fits = (refl, ends); split = i; left = subst Bytes i b })
  times_wrote (suc m) c s at l r o b h =
      let one = bind_got (p c s at) _ h in
      let ex = (X c).wrote s at _ _ _ b one.was in
      let two = bind_got (times p next m (next c one.first) one.rest one.place) _ one.then in
      let ey = times_wrote m (next c one.first) one.rest one.place two.first two.rest two.place ex.left two.was in
      let v : one.first ∷ two.first ≡ l = same_value two.then in
      let i : two.rest ≡ r = same_left two.then in
      subst (λ (l : List A). Many e P next (suc m) c l s r) v
      (subst (λ (r : List ℕ). Many e P next (suc m) c (one.first ∷ two.first) s r) i
      (record {
        fits = (ap suc ey.fits.0, goes ex.fits ey.fits.1);
        split = ex.split ∙ ap (λ (t : List ℕ). e one.first ++ t) ey.split ∙ sym (append_assoc (e one.first) _ _);
        left = ey.left;
      }))

  pub times_exact : (m c : ℕ) → Exact (times p next m c) (encode_all e) (λ l. (length l ≡ m) × Chain P next c l)
  times_exact m c = record {
    reads = λ l h s at. subst (λ (n : ℕ). times p next n c (encode_all e l ++ s) at ≡ got l s (at + length (encode_all e l))) h.0 (times_reads l c h.1 s at);
    wrote = times_wrote m c;
  }

  module _ {number : Parser ℕ} {ec : ℕ → List ℕ} {C : ℕ → Type 0} (K : Exact number ec C) where
    pub counted_exact : Exact (counted number p next) (encode_counted ec e) (λ l. C (length l) × Chain P next 0 l)
    unfolding times
    counted_exact = record { reads = λ l k s at. reads l k.0 k.1 s at; wrote = wrote }
      where
        reads : (l : List A) → C (length l) → Chain P next 0 l → (s : List ℕ) (at : ℕ)
            → counted number p next (encode_counted ec e l ++ s) at ≡ got l s (at + length (encode_counted ec e l))
        reads l k ch s at =
            let i : at + length (encode_counted ec e l) ≡ at + length (ec (length l)) + length (encode_all e l) = omega (arith, length-append (ec (length l)) (encode_all e l)) in
            rw (i, append_assoc (ec (length l)) (encode_all e l) s, K.reads (length l) k (encode_all e l ++ s) at) (times_reads l 0 ch s (at + length (ec (length l))))

        wrote : (s : List ℕ) (at : ℕ) (l : List A) (r : List ℕ) (o : ℕ) → Bytes s → counted number p next s at ≡ got l r o
            → Wrote (encode_counted ec e) (λ (l : List A). C (length l) × Chain P next 0 l) l s r
        wrote s at l r o b k =
            let one = bind_got (number s at) _ k in
            let ex = K.wrote s at _ _ _ b one.was in
            let m = times_wrote one.first 0 one.rest one.place l r o ex.left one.then in
            record {
              fits = (rw m.fits.0 ex.fits, m.fits.1);
              split = ex.split ∙ rw (← m.fits.0, m.split) (sym (append_assoc (ec (length l)) (encode_all e l) r));
              left = m.left;
            }

module _ {number : Parser ℕ} {ec : ℕ → List ℕ} {C : ℕ → Type 0} (K : Exact number ec C) where
  pub listed_exact : {A : Type 0} {p : Parser A} {e : A → List ℕ} {P : A → Type 0} → Exact p e P
      → Exact (listed number p) (encode_counted ec e) (λ l. C (length l) × Each P l)
  unfolding times
  listed_exact X = exact_as (λ l h. (h.0, chain_each h.1)) (λ l h. (h.0, each_chain h.1)) (counted_exact (λ _. X) K)
