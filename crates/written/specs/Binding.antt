-- which of the fixpoints on the way to a name binds it, and what is written for it
use Rattle.std.specs.Prelude.{◌≡◌, ◌≢◌, ◌⊎◌}
use Rattle.std.proofs.Math.Path.{refl, ap}
use Rattle.std.proofs.Common.{◌∙◌, inl, inr, eq-eqb, ne_eqb}
use mathlib.Core.List.{List, [], ◌∷◌}
use Prim.Native.Nat.{ℕ, zero, suc, ◌+◌}
use Rattle.std.proofs.Math.Decide.{ℕ_discrete}
use native.Mathlib.Omega.{arith}
use Rattle.written.specs.Form.{Form, bound}
use Rattle.written.specs.Written.{named}

-- x is none of the fixpoints s
abbrev pub Unbound : List ℕ → ℕ → Type 0
Unbound [] x = Unit {0}
Unbound (y ∷ s) x = (x ≢ y) × Unbound s x

-- x is the one at place i of s, and none before it
abbrev pub BoundAt : List ℕ → ℕ → ℕ → Type 0
BoundAt [] x i = ⊥
BoundAt (y ∷ s) x zero = x ≡ y
BoundAt (y ∷ s) x (suc i) = (x ≢ y) × BoundAt s x i

pub bound_or_free : (s : List ℕ) (x : ℕ) → ((i : ℕ) × BoundAt s x i) ⊎ Unbound s x
bound_or_free [] x = inr tt
bound_or_free (y ∷ s) x = go (ℕ_discrete x y) (bound_or_free s x)
  where
    go : Dec (x ≡ y) → ((i : ℕ) × BoundAt s x i) ⊎ Unbound s x → ((i : ℕ) × BoundAt (y ∷ s) x i) ⊎ Unbound (y ∷ s) x
    go (yes q) r = inl (0, q)
    go (no q) (inl (i, b)) = inl (suc i, (q, b))
    go (no q) (inr u) = inr (q, u)

pub not_both : (s : List ℕ) (x i : ℕ) → BoundAt s x i → Unbound s x → ⊥
not_both [] x i q _ = elim q [ ]
not_both (y ∷ s) x zero q (n, u) = n q
not_both (y ∷ s) x (suc i) (d, b) (n, u) = not_both s x i b u

module _ (f : ℕ → Form) where
  bound_from : (j : ℕ) (s : List ℕ) (x i : ℕ) → BoundAt s x i → named f j s x ≡ bound (i + j)
  unfolding named
  bound_from j [] x i q = elim q [ ]
  bound_from j (y ∷ s) x zero q = rw (eq-eqb x y q) (ap (λ (k : ℕ). bound k) (omega arith))
  bound_from j (y ∷ s) x (suc i) (n, b) =
      let q : i + suc j ≡ suc i + j = omega arith in
      rw (ne_eqb x y n) (bound_from (suc j) s x i b ∙ ap (λ (k : ℕ). bound k) q)

  free_from : (j : ℕ) (s : List ℕ) (x : ℕ) → Unbound s x → named f j s x ≡ f x
  unfolding named
  free_from j [] x u = refl
  free_from j (y ∷ s) x (n, u) = rw (ne_eqb x y n) (free_from (suc j) s x u)

  pub named_bound : (s : List ℕ) (x i : ℕ) → BoundAt s x i → named f 0 s x ≡ bound i
  named_bound s x i b = bound_from 0 s x i b ∙ ap (λ (k : ℕ). bound k) (omega arith)

  pub named_free : (s : List ℕ) (x : ℕ) → Unbound s x → named f 0 s x ≡ f x
  named_free = free_from 0
