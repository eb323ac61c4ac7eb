-- the columns of an entry table, and the table that stands in plain lists once they are written there
use Rattle.std.specs.Prelude.{◌≡◌, length, get_or, drop, set}
use Rattle.std.proofs.Math.Path.{refl, ap}
use Rattle.std.proofs.Common.{sym, ◌∙◌, le_of_suc-le-suc, arith}
use mathlib.Core.List.{List, [], ◌∷◌, ◌++◌}
use Prim.Native.Nat.{ℕ, zero, suc, ◌+◌, ◌<◌}
use Rattle.verdict.specs.Lists.{values_from, written}
use Rattle.verdict.specs.WrittenLaws.{written_more}
use Rattle.formula.specs.Table.{Entry, Table, entry}
use Rattle.formula.specs.Plain.{plain_entry, table_of}

module _ (f : Entry → ℕ) where
  unfoldable pub column : Table → List ℕ
  column [] = []
  column (r ∷ t) = f r ∷ column t

  pub column_length : (t : Table) → length (column t) ≡ length t
  unfolding column
  column_length [] = refl
  column_length (r ∷ t) = ap suc (column_length t)

  -- what stands at an entry's number once its column is written
  column_at : (t : Table) (old : List ℕ) (e : ℕ) → e < length t → get_or (column t ++ old) e 0 ≡ f (entry t e)
  unfolding column
  column_at [] old e h = absurd (omega arith)
  column_at (r ∷ t) old zero h = refl
  column_at (r ∷ t) old (suc e) h = column_at t old e (le_of_suc-le-suc h)

  pub written_at : (t : Table) (old : List ℕ) (e : ℕ) → e < length t → get_or (written (column t) old) e 0 ≡ f (entry t e)
  written_at t old e h = column_at t (drop (length (column t)) old) e h

  -- one entry more
  column-more : (t : Table) (e : Entry) → column (t ++ (e ∷ [])) ≡ column t ++ (f e ∷ [])
  unfolding column
  column-more [] e = refl
  column-more (r ∷ t) e = ap (λ (l : List ℕ). f r ∷ l) (column-more t e)

  pub column_stored : (t : Table) (e : Entry) (i : ℕ) (now old : List ℕ) → length t ≡ i → i < length old → now ≡ written (column t) old
      → set now i (f e) ≡ written (column (t ++ (e ∷ []))) old
  column_stored t e i now old m h s =
      let here : length (column t) ≡ i = column_length t ∙ m in
      ap (λ (l : List ℕ). set l i (f e)) s
      ∙ ap (λ (n : ℕ). set (written (column t) old) n (f e)) (sym here)
      ∙ written_more (column t) old (f e) (omega arith)
      ∙ ap (λ (l : List ℕ). written l old) (sym (column-more t e))

abbrev pub kind_column : Table → List ℕ
kind_column = column (λ r. r.kind)

abbrev pub a_column : Table → List ℕ
a_column = column (λ r. r.a)

abbrev pub b_column : Table → List ℕ
b_column = column (λ r. r.b)

-- a table is the list of its entries
same_values : (g : ℕ → Entry) (t : Table) (e : ℕ) → ((i : ℕ) → i < length t → g (e + i) ≡ entry t i) → values_from g e (length t) ≡ t
unfolding values_from
same_values g [] e h = refl
same_values g (r ∷ t) e h =
    let here : e ≡ e + 0 = omega arith in
    let head : g e ≡ r = ap g here ∙ h 0 (omega arith) in
    rw (head, same_values g t (suc e) rest) refl
  where
    rest : (i : ℕ) → i < length t → g (suc e + i) ≡ entry t i
    rest i l = let next : suc e + i ≡ e + suc i = omega arith in ap g next ∙ h (suc i) (omega arith)

-- reading the columns back gives the table
pub table_of_columns : (t : Table) (ks xs ys : List ℕ) → table_of (written (kind_column t) ks) (written (a_column t) xs) (written (b_column t) ys) (length t) ≡ t
unfolding table_of
table_of_columns t ks xs ys = same_values _ t 0 same
  where
    same : (i : ℕ) → i < length t → plain_entry (written (kind_column t) ks) (written (a_column t) xs) (written (b_column t) ys) (0 + i) ≡ entry t i
    same i l =
        let here : 0 + i ≡ i = omega arith in
        rw (here, written_at (λ r. r.kind) t ks i l, written_at (λ r. r.a) t xs i l, written_at (λ r. r.b) t ys i l) refl
