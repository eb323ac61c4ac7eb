-- lists of values: one of them replaced, and all of them the same
use Rattle.std.specs.Prelude.{◌≡◌, ◌≢◌, length, get_or, set, replicate}
use Rattle.std.proofs.Math.Path.{refl, ap}
use Rattle.std.proofs.Common.{sym, ◌∙◌, arith, length-set, get_or-set_same, get_or-set_other, ext_get_or}
use mathlib.Core.List.{List, ◌∷◌}
use Prim.Native.Nat.{ℕ, zero, suc, ◌<◌}
use Rattle.std.proofs.Math.Decide.{ℕ_discrete}
use Rattle.verdict.specs.Lists.{values_from, values_from_length, values_from_at}

module _ {A : Type 0} where
  pub values_same : (x : A) (e k : ℕ) → values_from (λ _. x) e k ≡ replicate k x
  unfolding values_from
  values_same x e zero = refl
  values_same x e (suc k) = ap (λ (l : List A). x ∷ l) (values_same x (suc e) k)

  -- two functions that differ only at i
  pub values_set : (f g : ℕ → A) (k i : ℕ) → i < k → ((j : ℕ) → j ≢ i → g j ≡ f j) → set (values_from f 0 k) i (g i) ≡ values_from g 0 k
  values_set f g k i h same = ext_get_or (g i) (set (values_from f 0 k) i (g i)) (values_from g 0 k) (long ∙ sym (values_from_length g 0 k)) (λ j l. at j (omega (arith, long)) (ℕ_discrete j i))
    where
      long : length (set (values_from f 0 k) i (g i)) ≡ k
      long = length-set (values_from f 0 k) i (g i) ∙ values_from_length f 0 k

      value : (u : ℕ → A) (j : ℕ) → j < k → get_or (values_from u 0 k) j (g i) ≡ u j
      value u j l = values_from_at u (g i) 0 k j l ∙ ap u (omega arith)

      at : (j : ℕ) → j < k → Dec (j ≡ i) → get_or (set (values_from f 0 k) i (g i)) j (g i) ≡ get_or (values_from g 0 k) j (g i)
      at j l (yes e) = rw e (get_or-set_same (values_from f 0 k) i (g i) (g i) (omega (arith, values_from_length f 0 k)) ∙ sym (value g i h))
      at j l (no n) = get_or-set_other (values_from f 0 k) i j (g i) (g i) n ∙ value f j l ∙ sym (same j n) ∙ sym (value g j l)
