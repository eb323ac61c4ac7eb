-- an entry table in plain numbers: kinds, As and Bs in a list each, of which the first n count
use Rattle.std.specs.Prelude.{◌≡◌, List, ℕ, ◌<◌, length, get_or}
use Rattle.std.proofs.Math.Path.{ap}
use Rattle.std.proofs.Common.{◌∙◌, arith}
use Rattle.verdict.specs.Lists.{values_from, values_from_length, values_from_at}
use Rattle.formula.specs.Table.{Entry, Table, blank, entry}

abbrev pub plain_entry : List ℕ → List ℕ → List ℕ → ℕ → Entry
plain_entry ks xs ys e = record { kind = get_or ks e 0; a = get_or xs e 0; b = get_or ys e 0 }

unfoldable pub table_of : List ℕ → List ℕ → List ℕ → ℕ → Table
unfolding values_from
table_of ks xs ys n = values_from (plain_entry ks xs ys) 0 n

module _ (ks xs ys : List ℕ) (n : ℕ) where
  pub table_of_length : length (table_of ks xs ys n) ≡ n
  unfolding table_of
  table_of_length = values_from_length (plain_entry ks xs ys) 0 n

  pub table_of_entry : (e : ℕ) → e < n → entry (table_of ks xs ys n) e ≡ plain_entry ks xs ys e
  unfolding table_of
  table_of_entry e h = values_from_at (plain_entry ks xs ys) blank 0 n e h ∙ ap (plain_entry ks xs ys) (omega arith)

  pub table_of_kind : (e : ℕ) → e < n → (entry (table_of ks xs ys n) e).kind ≡ get_or ks e 0
  table_of_kind e h = ap (λ (r : Entry). r.kind) (table_of_entry e h)

  pub table_of_a : (e : ℕ) → e < n → (entry (table_of ks xs ys n) e).a ≡ get_or xs e 0
  table_of_a e h = ap (λ (r : Entry). r.a) (table_of_entry e h)

  pub table_of_b : (e : ℕ) → e < n → (entry (table_of ks xs ys n) e).b ≡ get_or ys e 0
  table_of_b e h = ap (λ (r : Entry). r.b) (table_of_entry e h)
