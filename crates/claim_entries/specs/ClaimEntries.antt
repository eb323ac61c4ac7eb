-- the entries of a claim file, as the program walks over them and stores their columns
use Rattle.std.specs.Prelude.{◌≡◌, List, [], ◌∷◌, ◌++◌, ℕ, ◌+◌, ◌*◌, ◌<◌, ◌≤◌, drop, set}
use Rattle.std.proofs.Math.Path.{refl, sym, ap}
use Rattle.std.proofs.Common.{◌∙◌, arith}
use Rattle.std.proofs.Math.ListN.{length}
use Rattle.verdict.specs.Lists.{written}
use Rattle.formula.specs.Table.{Entry, Table}
use Rattle.formula.specs.Columns.{column, kind_column, a_column, b_column, column_stored}
use Rattle.formula.specs.Spelled.{Spelled, marked, marked_of, table_by, by_length, by_more}
use Rattle.formula.specs.Claim.{Form, fewest}
use Rattle.encoding.specs.Parse.{Got, fault, times, listed, count, two}
use Rattle.encoding.specs.Parsed.{Parsed}
use Rattle.claim_files.specs.ReadClaim.{early, entry, entries}
use Rattle.encoding.specs.Walk.{Reached, Walking, walk_begins, walk_steps, walk_stops, walk_ends, counted_starts, counted_cut}
use Rattle.encoding.specs.Places.{InFile}
use Rattle.file_parts.specs.Numbers.{count_at_lem, count_inside}
use Rattle.claim_entries.specs.ClaimEntry.{entry_at, EntryGot}
use Rattle.file_parts.specs.Parts.{ListRead, PartTells, part_as}

-- arrays of 256 elements: so is every `[T; 256]`, but of one behind a reference the logic does not tell it
pub record EntryArrays (ks xs ys : List ℕ) : Type 0 where
  pub kinds : length ks ≡ 256
  pub a_fields : length xs ≡ 256
  pub b_fields : length ys ≡ 256

-- the columns of the entries stand in front of what was there before
pub record EntriesStored (ks₀ ks xs₀ xs ys₀ ys : List ℕ) (es : Table) : Type 0 where
  pub kinds : ks ≡ written (kind_column es) ks₀
  pub a_fields : xs ≡ written (a_column es) xs₀
  pub b_fields : ys ≡ written (b_column es) ys₀

-- n entries from a place on
unfoldable pub entries_from : ℕ → List ℕ → ℕ → Got (List Spelled)
entries_from n s at = times (λ _. entry) (λ _ _. 0) n 0 (drop at s) at

-- the entries' part of a file
unfoldable pub entries_at : ℕ → List ℕ → ℕ → Got (List Spelled)
unfolding times
entries_at least s at = listed (count least 256 12 (two early)) entry (drop at s) at

-- as the form has it
pub form_entries : (f : Form) (s : List ℕ) (at : ℕ) → entries f (drop at s) at ≡ entries_at (fewest f) s at
unfolding entries_at entries
form_entries f s at = refl

module _ (least : ℕ) (s : List ℕ) (at : ℕ) where
  pub entries_cut : {n q : ℕ} → count_at_lem least 256 12 early s at ≡ fault n q → entries_at least s at ≡ fault n q
  unfolding entries_at count_at_lem
  entries_cut h = counted_cut (λ _. entry) (λ _ _. 0) (count least 256 12 (two early)) (drop at s) at h

  pub entries_start : {n o limit : ℕ} → Reached s limit (count_at_lem least 256 12 early s at) n o → entries_at least s at ≡ entries_from n s o
  unfolding entries_at count_at_lem entries_from
  entries_start h = counted_starts (λ _. entry) (λ _ _. 0) (count least 256 12 (two early)) (drop at s) at h.found

-- the part begins at offset 4: no entry lies past offset 1,542
module _ (least : ℕ) (s : List ℕ) {n o : ℕ} (h : Reached s (4 + 2) (count_at_lem least 256 12 early s 4) n o) where
  pub entries_place : InFile s 6 o × (n ≤ 256)
  entries_place = (record { within = h.inside; low = h.near }, (count_inside early s 4 least 256 12 h).1)

  pub entries_tell : (Stored : List Spelled → Type 0) (r : Parsed ℕ) → PartTells s (o + 6 * n) 256 (entries_from n s o) Stored r → PartTells s 1542 256 (entries_at least s 4) Stored r
  entries_tell Stored r t = part_as s 256 Stored r (omega (arith, h.near, count_inside early s 4 least 256 12 h)) (entries_start least s 4 h) t

-- i of n entries are read and stored
pub record Entered (s : List ℕ) (from n : ℕ) (ks₀ xs₀ ys₀ : List ℕ) (i at : ℕ) (ks xs ys : List ℕ) : Type 0 where
  pub es : List Spelled
  pub walking : Walking (λ _. entry) (λ _ _. 0) (entries_from n s from) n i es 0 (drop at s) at
  pub stored : EntriesStored ks₀ ks xs₀ xs ys₀ ys (marked_of es)
  pub within : at ≤ length s
  pub near : at ≤ from + 6 * i

module _ (s : List ℕ) (from n : ℕ) (ks₀ xs₀ ys₀ : List ℕ) where
  pub none_entered : from ≤ length s → Entered s from n ks₀ xs₀ ys₀ 0 from ks₀ xs₀ ys₀
  unfolding entries_from column table_by
  none_entered h =
      record {
        es = [];
        walking = walk_begins (λ _. entry) (λ _ _. 0) n 0 (drop from s) from;
        stored = record { kinds = refl; a_fields = refl; b_fields = refl };
        within = h;
        near = omega arith;
      }

  module _ {i at : ℕ} {ks xs ys : List ℕ} (e : Entered s from n ks₀ xs₀ ys₀ i at ks xs ys) where
    pub entering_stops : i < n → {m q : ℕ} → entry_at s at ≡ fault m q → entries_from n s from ≡ fault m q
    unfolding entry_at
    entering_stops h f = walk_stops (λ _. entry) (λ _ _. 0) e.walking h f

    pub one_entered : i < n → n ≤ 256 → EntryArrays ks₀ xs₀ ys₀ → {k a b o : ℕ} → EntryGot s (at + 6) (entry_at s at) k a b o
        → Entered s from n ks₀ xs₀ ys₀ (i + 1) o (set ks i k) (set xs i a) (set ys i b)
    unfolding entry_at
    one_entered h f v {k} {a} {b} r =
        let t : Table = marked_of e.es in
        let x : Entry = record { kind = k; a = a; b = b } in
        let m : length t ≡ i = by_length marked e.es ∙ e.walking.many in
        let more : t ++ (x ∷ []) ≡ marked_of (e.es ++ (r.entry ∷ [])) = ap (λ (y : Entry). t ++ (y ∷ [])) (sym r.held) ∙ sym (by_more marked e.es r.entry) in
        record {
          es = e.es ++ (r.entry ∷ []);
          walking = walk_steps (λ _. entry) (λ _ _. 0) e.walking h r.reached.found;
          stored =
              record {
                kinds = column_stored (λ x. x.kind) t x i ks ks₀ m (omega (arith, v.kinds)) e.stored.kinds ∙ ap (λ (l : Table). written (kind_column l) ks₀) more;
                a_fields = column_stored (λ x. x.a) t x i xs xs₀ m (omega (arith, v.a_fields)) e.stored.a_fields ∙ ap (λ (l : Table). written (a_column l) xs₀) more;
                b_fields = column_stored (λ x. x.b) t x i ys ys₀ m (omega (arith, v.b_fields)) e.stored.b_fields ∙ ap (λ (l : Table). written (b_column l) ys₀) more;
              };
          within = r.reached.inside;
          near = omega (arith, r.reached.near, e.near);
        }

    pub all_entered : i ≤ n → n ≤ i → n ≤ 256
        → ListRead s (from + 6 * n) 256 (entries_from n s from) (λ es. EntriesStored ks₀ ks xs₀ xs ys₀ ys (marked_of es)) n at
    all_entered l h f =
        record {
          list = e.es;
          many = omega (arith, e.walking.many);
          few = f;
          reached = record { found = walk_ends (λ _. entry) (λ _ _. 0) e.walking h; inside = e.within; near = omega (arith, e.near) };
          stored = e.stored;
        }
