-- what parsers that are joined got or faulted on, taken apart
use Rattle.std.specs.Prelude.{◌≡◌, refl, List, Bool, true, false, ℕ}
use Rattle.std.proofs.Common.{sym, ap, arith}
use Rattle.encoding.specs.Parse.{Got, fault, got, pick, bind}

value : {A : Type 0} → A → Got A → A
value x (fault n q) = x
value x (got y r o) = y

left_of : {A : Type 0} → List ℕ → Got A → List ℕ
left_of s (fault n q) = s
left_of s (got y r o) = r

number_of : {A : Type 0} → Got A → ℕ
number_of (fault n q) = n
number_of (got x r o) = 0

place_of : {A : Type 0} → Got A → ℕ
place_of (fault n q) = q
place_of (got x r o) = o

is_fault : {A : Type 0} → Got A → ℕ
is_fault (fault n q) = 1
is_fault (got x r o) = 0

pub fault_not_got : {A : Type 0} {x : A} {r : List ℕ} {n q o : ℕ} → fault n q ≡ got x r o → ⊥
unfolding is_fault
fault_not_got h = let z : ◌≡◌ {A = ℕ} 1 0 = ap is_fault h in omega arith

pub same_value : {A : Type 0} {x y : A} {s r : List ℕ} {o z : ℕ} → got x s o ≡ got y r z → x ≡ y
unfolding value
same_value {x = x} h = ap (value x) h

pub same_left : {A : Type 0} {x y : A} {s r : List ℕ} {o z : ℕ} → got x s o ≡ got y r z → s ≡ r
unfolding left_of
same_left {s = s} h = ap (left_of s) h

pub got_place : {A : Type 0} {x y : A} {s r : List ℕ} {o z : ℕ} → got x s o ≡ got y r z → o ≡ z
unfolding place_of
got_place h = ap place_of h

pub same_number : {A : Type 0} {n q m r : ℕ} → ◌≡◌ {A = Got A} (fault n q) (fault m r) → n ≡ m
unfolding number_of
same_number h = ap number_of h

pub same_place : {A : Type 0} {n q m r : ℕ} → ◌≡◌ {A = Got A} (fault n q) (fault m r) → q ≡ r
unfolding place_of
same_place h = ap place_of h

-- what was got before
pub record FirstPart {A B : Type 0} (g : Got A) (f : A → List ℕ → ℕ → Got B) (y : B) (r : List ℕ) (o : ℕ) : Type 0 where
  pub first : A
  pub rest : List ℕ
  pub place : ℕ
  pub was : g ≡ got first rest place
  pub then : f first rest place ≡ got y r o

pub bind_got : {A B : Type 0} (g : Got A) (f : A → List ℕ → ℕ → Got B) {y : B} {r : List ℕ} {o : ℕ} → bind g f ≡ got y r o → FirstPart g f y r o
bind_got (fault n q) f h = absurd (fault_not_got h)
bind_got (got x t z) f h = record { first = x; rest = t; place = z; was = refl; then = h }

pub pick_got : {A : Type 0} (b : Bool) (x : A) (s : List ℕ) (o n q : ℕ) {y : A} {r : List ℕ} {z : ℕ} → pick b (got x s o) (fault n q) ≡ got y r z → (b ≡ true) × (x ≡ y) × (s ≡ r)
pick_got true x s o n q h = (refl, same_value h, same_left h)
pick_got false x s o n q h = absurd (fault_not_got h)

pub pick_fault : {A : Type 0} (b : Bool) (x : A) (s : List ℕ) (o m r : ℕ) {n q : ℕ} → pick b (got x s o) (fault m r) ≡ fault n q → (b ≡ false) × (m ≡ n) × (r ≡ q)
pick_fault true x s o m r h = absurd (fault_not_got (sym h))
pick_fault false x s o m r h = (refl, same_number h, same_place h)
