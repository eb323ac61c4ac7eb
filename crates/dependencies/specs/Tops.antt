-- the highest free names, found upwards: an entry's from those below it
use Rattle.std.specs.Prelude.{◌≡◌, List, ℕ, max, ◌<◌, ◌≤◌, length, get_or}
use Rattle.std.proofs.Math.Path.{refl, sym}
use Rattle.std.proofs.Common.{◌∙◌}
use borrow.Author.Tests.{lt-ltb, le-ltb}
use Rattle.formula.specs.Shape.{shape}
use Rattle.dependencies.specs.Top.{top_clause, top}
use Rattle.dependencies.specs.TopLaws.{top_clause_local, top_at}
use Rattle.forming.specs.Claim.{table_from, Claim, leaf_at, two_at, step-at, fix_at, name_at}
use Rattle.states.specs.Fill.{Filled}

-- from the numbers as they stand
unfoldable pub top_from : List ℕ → List ℕ → List ℕ → List ℕ → ℕ → ℕ
top_from ks xs ys ts e = top_clause (λ c. get_or ts c 0) e (shape (table_from ks xs ys) e)

abbrev pub Tops : List ℕ → List ℕ → List ℕ → List ℕ → Type 0
Tops ks xs ys ts = (e : ℕ) → e < length ks → get_or ts e 0 ≡ top (table_from ks xs ys) e

module _ {ks xs ys : List ℕ} (C : Claim ks xs ys) (ts : List ℕ) (e : ℕ) (l : e < length ks) where
  pub top_leaf : get_or ks e 0 < 4 → 0 ≡ top_from ks xs ys ts e
  unfolding top_from top_clause
  top_leaf k = let (v, q) = leaf_at C e l k in rw q refl

  pub top_name : 9 < get_or ks e 0 → get_or xs e 0 ≡ top_from ks xs ys ts e
  unfolding top_from top_clause
  top_name k = rw (name_at C e l k) refl

  module _ (a : ℕ) (p : a ≡ get_or xs e 0) where
    pub top_two : 3 < get_or ks e 0 → get_or ks e 0 < 6 → (b r : ℕ) → b ≡ get_or ys e 0 → r ≡ max (get_or ts a 0) (get_or ts b 0) → r ≡ top_from ks xs ys ts e
    unfolding top_from top_clause
    top_two h k b r m q = let (o, z) = two_at C e l h k in rw (z, ← p, ← m) q

    pub top_step : 5 < get_or ks e 0 → get_or ks e 0 < 8 → get_or ts a 0 ≡ top_from ks xs ys ts e
    unfolding top_from top_clause
    top_step h k = let (o, z) = step-at C e l h k in rw (z, ← p) refl

    pub top_fix : 7 < get_or ks e 0 → get_or ks e 0 < 10 → e < get_or ts a 0 → get_or ts a 0 ≡ top_from ks xs ys ts e
    unfolding top_from top_clause
    top_fix h k m = let (o, z) = fix_at C e l h k in rw (z, ← p, lt-ltb e (get_or ts a 0) m) refl

    pub top_closed : 7 < get_or ks e 0 → get_or ks e 0 < 10 → get_or ts a 0 ≤ e → 0 ≡ top_from ks xs ys ts e
    unfolding top_from top_clause
    top_closed h k m = let (o, z) = fix_at C e l h k in rw (z, ← p, le-ltb e (get_or ts a 0) m) refl

  -- where those below are found, this is the highest free name
  pub top_next : {old : List ℕ} → Filled (top (table_from ks xs ys)) old e ts → (r : ℕ) → r ≡ top_from ks xs ys ts e → r ≡ top (table_from ks xs ys) e
  unfolding top_from
  top_next F r q =
      q
      ∙ top_clause_local _ _ e (shape (table_from ks xs ys) e) (λ c o. F.below c (C.formed.well.operands_below e c o))
      ∙ sym (top_at (table_from ks xs ys) C.formed.well e refl)
