-- chains of values that do not look at each other, and chains of numbers that rise
use Rattle.std.specs.Prelude.{◌≡◌, refl, List, [], ◌∷◌, ◌++◌, ℕ, zero, suc, ◌<◌, ◌≤◌, length, get_or}
use Rattle.std.proofs.Common.{arith}
use Rattle.verdict.specs.Lists.{Each, none, more, Rising}
use Rattle.encoding.specs.Chain.{Chain, ends, goes, last}

pub each_as : {A : Type 0} {P Q : A → Type 0} {l : List A} → ((x : A) → P x → Q x) → Each P l → Each Q l
each_as f none = none
each_as f (more {x = x} h k) = more (f x h) (each_as f k)

module _ {A : Type 0} {P : A → Type 0} where
  pub chain_each : {c : ℕ} {l : List A} → Chain (λ _. P) (λ _ _. 0) c l → Each P l
  chain_each ends = none
  chain_each (goes h k) = more h (chain_each k)

  pub each_chain : {c : ℕ} {l : List A} → Each P l → Chain (λ _. P) (λ _ _. 0) c l
  each_chain none = ends
  each_chain {c = c} (more h k) = goes h (each_chain {c = 0} k)

-- a number that has the property, and lies at or above c
abbrev pub From : (P Q : ℕ → Type 0) → ℕ → ℕ → Type 0
From P Q c x = P x × ((c ≤ x) × Q x)

abbrev pub Numbers : (P Q : ℕ → Type 0) → ℕ → List ℕ → Type 0
Numbers P Q c l = Chain (From P Q) (λ _ x. suc x) c l

-- the first number, if there is one, lies at or above c
abbrev Above : ℕ → List ℕ → Type 0
Above c l = 0 < length l → c ≤ get_or l 0 0

module _ {P Q : ℕ → Type 0} where
  chain_above : {c : ℕ} {l : List ℕ} → Numbers P Q c l → Above c l
  chain_above ends i = absurd (omega arith)
  chain_above (goes h k) i = h.1.0

  pub chain_rising : {c : ℕ} {l : List ℕ} → Numbers P Q c l → Rising l
  chain_rising ends i h = absurd (omega arith)
  chain_rising (goes h k) zero i = chain_above k (omega arith)
  chain_rising (goes h k) (suc j) i = chain_rising k j (omega arith)

  pub chain_members : {c : ℕ} {l : List ℕ} → Numbers P Q c l → Each (λ x. P x × Q x) l
  chain_members ends = none
  chain_members (goes h k) = more (h.0, h.1.1) (chain_members k)

-- a number that rises above those before it
rises_from : (c : ℕ) (l : List ℕ) (x : ℕ) → (length l ≡ 0 → c ≤ x) → Rising (l ++ (x ∷ [])) → last (λ _ x. suc x) c l ≤ x
unfolding last
rises_from c [] x g r = g refl
rises_from c (y ∷ []) x g r = r 0 (omega arith)
rises_from c (y ∷ z ∷ l) x g r = rises_from (suc y) (z ∷ l) x (λ e. absurd (omega arith)) (λ j i. r (suc j) (omega arith))

pub rises : (l : List ℕ) (x : ℕ) → Rising (l ++ (x ∷ [])) → last (λ _ x. suc x) 0 l ≤ x
rises l x r = rises_from 0 l x (λ e. omega arith) r

from_rises : (c : ℕ) (l : List ℕ) (x : ℕ) → Rising l → last (λ _ x. suc x) c l ≤ x → Rising (l ++ (x ∷ []))
unfolding last
from_rises c [] x r h i j = absurd (omega arith)
from_rises c (y ∷ []) x r h zero j = h
from_rises c (y ∷ []) x r h (suc i) j = absurd (omega arith)
from_rises c (y ∷ z ∷ l) x r h zero j = r 0 (omega arith)
from_rises c (y ∷ z ∷ l) x r h (suc i) j = from_rises (suc y) (z ∷ l) x (λ k u. r (suc k) (omega arith)) h i (omega arith)

pub rises_back : (l : List ℕ) (x : ℕ) → Rising l → last (λ _ x. suc x) 0 l ≤ x → Rising (l ++ (x ∷ []))
rises_back l x r h = from_rises 0 l x r h
