-- an index reads and replaces what its list does
use Rattle.std.specs.Prelude.{◌≡◌, get_or, set}
use Rattle.std.proofs.Math.Path.{refl, sym, ap}
use Rattle.std.proofs.Common.{subst, ◌∙◌, arith}
use mathlib.Core.List.{List, [], ◌∷◌}
use Prim.Native.Nat.{ℕ, zero, suc, ◌-◌, ◌*◌, ◌/◌, ◌%◌}
use borrow.Author.Tests.{eq-eqb, ne_eqb}
use Rattle.verdict.specs.Index.{Index, tip, bin, cons, index, at, put}

-- where a place lies
data Place : ℕ → Type 0 where
  root : Place 0
  left : (k : ℕ) → Place (suc (2 * k))
  right : (k : ℕ) → Place (suc (suc (2 * k)))

twice : (k : ℕ) → 2 * suc k ≡ suc (suc (2 * k))
twice k = omega arith

next : {i : ℕ} → Place i → Place (suc i)
next root = left 0
next (left k) = right k
next (right k) = subst (λ (i : ℕ). Place (suc i)) (twice k) (left (suc k))

place : (i : ℕ) → Place i
place zero = root
place (suc i) = next (place i)

module _ {A : Type 0} (x : A) (l r : Index A) (k : ℕ) where
  left_half : (suc (2 * k) - 1) / 2 ≡ k
  left_half = omega arith

  right_half : (suc (suc (2 * k)) - 1) / 2 ≡ k
  right_half = omega arith

  at_left : (d : A) → at d (bin x l r) (suc (2 * k)) ≡ at d l k
  unfolding at
  at_left d = rw (ne_eqb (suc (2 * k)) 0 (omega arith), eq-eqb (suc (2 * k) % 2) 1 (omega arith), left_half) refl

  at_right : (d : A) → at d (bin x l r) (suc (suc (2 * k))) ≡ at d r k
  unfolding at
  at_right d = rw (ne_eqb (suc (suc (2 * k))) 0 (omega arith), ne_eqb (suc (suc (2 * k)) % 2) 1 (omega arith), right_half) refl

  put_left : (y : A) → put (bin x l r) (suc (2 * k)) y ≡ bin x (put l k y) r
  unfolding put
  put_left y = rw (ne_eqb (suc (2 * k)) 0 (omega arith), eq-eqb (suc (2 * k) % 2) 1 (omega arith), left_half) refl

  put_right : (y : A) → put (bin x l r) (suc (suc (2 * k))) y ≡ bin x l (put r k y)
  unfolding put
  put_right y = rw (ne_eqb (suc (suc (2 * k))) 0 (omega arith), ne_eqb (suc (suc (2 * k)) % 2) 1 (omega arith), right_half) refl

module _ {A : Type 0} where
  at_first : (d x : A) (t : Index A) → at d (cons x t) 0 ≡ x
  unfolding at cons
  at_first d x tip = refl
  at_first d x (bin y l r) = refl

  at_later : (d x : A) (t : Index A) (i : ℕ) → at d (cons x t) (suc i) ≡ at d t i
  unfolding at cons
  at_later d x tip i = go (place i)
    where
      go : {i : ℕ} → Place i → at d (bin x tip tip) (suc i) ≡ d
      go root = refl
      go (left k) = at_right x tip tip k d
      go (right k) = rw (← twice k) (at_left x tip tip (suc k) d)
  at_later d x (bin y l r) i = go (place i) (at_later d y r)
    where
      go : {i : ℕ} → Place i → ((k : ℕ) → at d (cons y r) (suc k) ≡ at d r k) → at d (bin x (cons y r) l) (suc i) ≡ at d (bin y l r) i
      go root ih = at_left x (cons y r) l 0 d ∙ at_first d y r
      go (left k) ih = at_right x (cons y r) l k d ∙ sym (at_left y l r k d)
      go (right k) ih = (rw (twice k) at (at_left x (cons y r) l (suc k) d)) ∙ ih k ∙ sym (at_right y l r k d)

  pub at-index : (d : A) (l : List A) (i : ℕ) → at d (index l) i ≡ get_or l i d
  unfolding at index
  at-index d [] i = refl
  at-index d (x ∷ l) zero = at_first d x (index l)
  at-index d (x ∷ l) (suc i) = at_later d x (index l) i ∙ at-index d l i

  put_first : (x y : A) (t : Index A) → put (cons x t) 0 y ≡ cons y t
  unfolding put cons
  put_first x y tip = refl
  put_first x y (bin z l r) = refl

  put_later : (x y : A) (t : Index A) (i : ℕ) → put (cons x t) (suc i) y ≡ cons x (put t i y)
  unfolding put cons
  put_later x y tip i = go (place i)
    where
      go : {i : ℕ} → Place i → put (bin x tip tip) (suc i) y ≡ bin x tip tip
      go root = refl
      go (left k) = put_right x tip tip k y
      go (right k) = rw (← twice k) (put_left x tip tip (suc k) y)
  put_later x y (bin z l r) i = go (place i) (put_later z y r)
    where
      go : {i : ℕ} → Place i → ((k : ℕ) → put (cons z r) (suc k) y ≡ cons z (put r k y)) → put (bin x (cons z r) l) (suc i) y ≡ cons x (put (bin z l r) i y)
      go root ih = put_left x (cons z r) l 0 y ∙ rw (put_first z y r) refl
      go (left k) ih = put_right x (cons z r) l k y ∙ rw (put_left z l r k y) refl
      go (right k) ih = (rw (twice k) at (put_left x (cons z r) l (suc k) y)) ∙ rw (ih k, put_right z l r k y) refl

  -- past the end both change nothing
  pub put_index : (l : List A) (i : ℕ) (y : A) → put (index l) i y ≡ index (set l i y)
  unfolding put index
  put_index [] i y = refl
  put_index (x ∷ l) zero y = put_first x y (index l)
  put_index (x ∷ l) (suc i) y = put_later x y (index l) i ∙ ap (cons x) (put_index l i y)
