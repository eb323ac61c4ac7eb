-- lists whose elements all satisfy a condition, lists that rise strictly, lists of values, lists written over others
use Rattle.std.specs.Prelude.{◌≡◌, refl, List, [], ◌∷◌, ◌++◌, ℕ, zero, suc, ◌+◌, ◌<◌, length, get_or, drop}
use Rattle.std.proofs.Common.{ap, ◌∙◌, le_of_suc-le-suc, arith}

pub data Each {A : Type 0} (P : A → Type 0) : List A → Type 0 where
  none : Each P []
  more : {x : A} {l : List A} → P x → Each P l → Each P (x ∷ l)

-- strictly rising: each element is smaller than the next
abbrev pub Rising : List ℕ → Type 0
Rising l = (i : ℕ) → suc i < length l → get_or l i 0 < get_or l (suc i) 0

-- the values of f at k numbers from e on
unfoldable pub values_from : {A : Type 0} → (ℕ → A) → ℕ → ℕ → List A
values_from f e zero = []
values_from f e (suc k) = f e ∷ values_from f (suc e) k

pub values_from_length : {A : Type 0} (f : ℕ → A) (e k : ℕ) → length (values_from f e k) ≡ k
unfolding values_from
values_from_length f e zero = refl
values_from_length f e (suc k) = ap suc (values_from_length f (suc e) k)

pub values_from_at : {A : Type 0} (f : ℕ → A) (d : A) (e k i : ℕ) → i < k → get_or (values_from f e k) i d ≡ f (e + i)
unfolding values_from
values_from_at f d e zero i h = absurd (omega arith)
values_from_at f d e (suc k) zero h = ap f (omega arith)
values_from_at f d e (suc k) (suc i) h = values_from_at f d (suc e) k i (le_of_suc-le-suc h) ∙ ap f (omega arith)

-- the whole of what is written, and what was there before unchanged beyond it
abbrev pub written : {A : Type 0} → List A → List A → List A
written new old = new ++ drop (length new) old
