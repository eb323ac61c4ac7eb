-- two tables in plain numbers, compared row by row
use Rattle.std.specs.Prelude.{◌≡◌, refl, true, false, List, ◌∷◌, ℕ, zero, suc, ◌+◌, ◌<◌, length, get_or}
use Rattle.std.proofs.Math.Path.{sym, ap}
use Rattle.std.proofs.Common.{ap₂, ◌∙◌}
use Rattle.std.proofs.Math.Decide.{dec_lt}
use native.Mathlib.Omega.{arith}
use Rattle.verdict.specs.Lists.{values_from}
use Rattle.verdict.specs.Tells.{fails_holds}
use Rattle.formula.specs.Table.{Table, entry}
use Rattle.formula.specs.Plain.{plain_entry, table_of, table_of_length, table_of_entry}
use Rattle.joining.specs.FitTest.{same_entries_lem, same_entries_tells}

-- the same values make the same list
values_same : {A : Type 0} (f g : ℕ → A) (e n : ℕ) → ((i : ℕ) → i < n → f (e + i) ≡ g (e + i)) → values_from f e n ≡ values_from g e n
unfolding values_from
values_same f g e zero h = refl
values_same f g e (suc n) h =
    let here : f e ≡ g e = let i : e ≡ e + 0 = omega arith in rw i (h 0 (omega arith)) in
    let later = values_same f g (suc e) n (λ i k. let j : suc e + i ≡ e + suc i = omega arith in rw j (h (suc i) (omega arith))) in
    ap₂ (λ x l. x ∷ l) here later

module _ (ks xs ys ks' xs' ys' : List ℕ) where
  -- the first i rows are the same
  abbrev pub RowsSame : ℕ → Type 0
  RowsSame i = (e : ℕ) → e < i → plain_entry ks xs ys e ≡ plain_entry ks' xs' ys' e

  pub row_same : (i : ℕ) → RowsSame i → get_or ks i 0 ≡ get_or ks' i 0 → get_or xs i 0 ≡ get_or xs' i 0 → get_or ys i 0 ≡ get_or ys' i 0 → RowsSame (i + 1)
  row_same i h k a b e l = go (dec_lt e i)
    where
      go : Dec (e < i) → plain_entry ks xs ys e ≡ plain_entry ks' xs' ys' e
      go (yes m) = h e m
      go (no m) = let j : e ≡ i = omega arith in rw (j, k, a, b) refl

  module _ (n m : ℕ) where
    pub counts_differ : (n ≡ m → ⊥) → false ≡ same_entries_lem (table_of ks xs ys n) (table_of ks' xs' ys' m)
    counts_differ d = sym (fails_holds (same_entries_tells _ _) (λ q. d (sym (table_of_length ks xs ys n) ∙ ap length q ∙ table_of_length ks' xs' ys' m)))

    module _ (same : n ≡ m) where
      pub row_differs : (i : ℕ) → i < n → (plain_entry ks xs ys i ≡ plain_entry ks' xs' ys' i → ⊥) → false ≡ same_entries_lem (table_of ks xs ys n) (table_of ks' xs' ys' m)
      row_differs i h d = sym (fails_holds (same_entries_tells _ _) (λ q.
          d (sym (table_of_entry ks xs ys n i h) ∙ ap (λ (t : Table). entry t i) q ∙ table_of_entry ks' xs' ys' m i (omega arith))))

      pub rows_all : RowsSame n → true ≡ same_entries_lem (table_of ks xs ys n) (table_of ks' xs' ys' m)
      unfolding table_of
      rows_all h = sym ((same_entries_tells _ _).holds (
          values_same (plain_entry ks xs ys) (plain_entry ks' xs' ys') 0 n (λ i l. let z : 0 + i ≡ i = omega arith in rw z (h i l))
          ∙ ap (values_from (plain_entry ks' xs' ys') 0) same))
