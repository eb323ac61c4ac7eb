-- values that each fit in sight of a number which the one before sets
use Rattle.std.specs.Prelude.{List, [], ◌∷◌, ℕ}

pub data Chain {A : Type 0} (P : ℕ → A → Type 0) (next : ℕ → A → ℕ) : ℕ → List A → Type 0 where
  ends : {c : ℕ} → Chain P next c []
  goes : {c : ℕ} {x : A} {l : List A} → P c x → Chain P next (next c x) l → Chain P next c (x ∷ l)

-- the number set by the last
unfoldable pub last : {A : Type 0} → (ℕ → A → ℕ) → ℕ → List A → ℕ
last next c [] = c
last next c (x ∷ l) = last next (next c x) l
