-- an entry as a file spells it: its bit map says which fields stand there. A record (kind, A, B) does not show whether a 0 in B was written
use Rattle.std.specs.Prelude.{◌≡◌, Bool, ◌&&◌, eqb, leb, length, get_or}
use Rattle.std.proofs.Math.Path.{refl, ap}
use mathlib.Core.List.{List, [], ◌∷◌, ◌++◌}
use Prim.Native.Nat.{ℕ, zero, suc, ◌%◌}
use Rattle.verdict.specs.Tests.{choose}
use Rattle.formula.specs.Kind
use Rattle.formula.specs.Table.{Entry, Table, entry}
use Rattle.formula.specs.Fields.{is_modal_lem}

pub record Spelled : Type 0 where
  pub map : ℕ
  pub kind : ℕ
  pub a : ℕ
  pub b : ℕ

-- bit 0: A, bit 1: B
abbrev pub a_stands_lem : ℕ → Bool
a_stands_lem m = eqb (m % 2) 1

abbrev pub b_stands_lem : ℕ → Bool
b_stands_lem m = leb 2 m

abbrev pub unspelled : Spelled
unspelled = record { map = 0; kind = Kind.FALSE; a = 0; b = 0 }

-- the record of an entry
abbrev pub record_of : Spelled → Entry
record_of s = record { kind = s.kind; a = s.a; b = s.b }

-- a box or diamond whose action 0 is written out
abbrev pub zero_written : Spelled → Bool
zero_written s = is_modal_lem s.kind && (b_stands_lem s.map && eqb s.b 0)

-- as the code holds it: an action that no file can mean stands for a 0 that is written out
abbrev pub marked : Spelled → Entry
marked s = record { kind = s.kind; a = s.a; b = choose (zero_written s) 65535 s.b }

module _ (f : Spelled → Entry) where
  unfoldable pub table_by : List Spelled → Table
  table_by [] = []
  table_by (s ∷ ss) = f s ∷ table_by ss

  pub by_length : (ss : List Spelled) → length (table_by ss) ≡ length ss
  unfolding table_by
  by_length [] = refl
  by_length (s ∷ ss) = ap suc (by_length ss)

  pub by_more : (ss : List Spelled) (s : Spelled) → table_by (ss ++ (s ∷ [])) ≡ table_by ss ++ (f s ∷ [])
  unfolding table_by
  by_more [] s = refl
  by_more (x ∷ ss) s = ap (λ (t : Table). f x ∷ t) (by_more ss s)

-- the table of records, and the table that the code holds
abbrev pub records_of : List Spelled → Table
records_of = table_by record_of

abbrev pub marked_of : List Spelled → Table
marked_of = table_by marked

abbrev pub spelled : List Spelled → ℕ → Spelled
spelled ss e = get_or ss e unspelled

-- the entries of which a 0 is written out
abbrev pub zeros : List Spelled → ℕ → Bool
zeros ss e = zero_written (spelled ss e)

-- an entry by its spelling
pub records-at : (ss : List Spelled) (e : ℕ) → entry (records_of ss) e ≡ record_of (spelled ss e)
unfolding table_by
records-at [] e = refl
records-at (s ∷ ss) zero = refl
records-at (s ∷ ss) (suc e) = records-at ss e

pub marked_at : (ss : List Spelled) (e : ℕ) → entry (marked_of ss) e ≡ marked (spelled ss e)
unfolding table_by
marked_at [] e = refl
marked_at (s ∷ ss) zero = refl
marked_at (s ∷ ss) (suc e) = marked_at ss e
