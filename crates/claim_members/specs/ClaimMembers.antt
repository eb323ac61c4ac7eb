-- the members of a goal, as the program walks over them: judged by the entries' kinds, and stored
use Rattle.std.specs.Prelude.{◌≡◌, Bool, true, false, not, ◌&&◌, eqb, ltb, length, get_or, drop}
use Rattle.std.proofs.Math.Path.{refl, sym, ap, fun_ext}
use Rattle.std.proofs.Common.{◌∙◌}
use mathlib.Core.List.{List, [], ◌∷◌, ◌++◌}
use Rattle.std.proofs.lemmas.Bool.{false≢true}
use Prim.Native.Nat.{ℕ, suc, ◌+◌, ◌*◌, ◌<◌, ◌≤◌}
use native.Mathlib.Omega.{arith}
use Rattle.std.proofs.Math.ListN.{set}
use Rattle.std.proofs.lemmas.List.Edits.{sets}
use borrow.Author.Tests.{le-leb, lt-leb, lt-ltb, le-ltb, not-true, not-false}
use Rattle.verdict.specs.Lists.{written}
use Rattle.verdict.specs.Tells.{Tells, tells_as, and_tells, not_tells, ltb_tells, eqb_tells, fails_holds}
use Rattle.formula.specs.Kind
use Rattle.formula.specs.Table.{Table}
use Rattle.formula.specs.Codes.{Formula}
use Rattle.formula.specs.Columns.{column, kind_column, written_at}
use Rattle.formula.specs.Spelled.{Spelled, record_of, records_of, marked_of, table_by, by_length}
use Rattle.encoding.specs.Parse.{Got, fault, Parser, guard, times, count, two, fits_from, rising}
use Rattle.formula.specs.Members.{is_formula, formula_tells}
use Rattle.claim_files.specs.ReadClaim.{early, members}
use Rattle.encoding.specs.Walk.{Reached, guard_passes, guard_fails, guard_cut, Walking, walk_begins, walk_steps, walk_stops, walk_ends, counted_starts, counted_cut}
use Rattle.verdict.specs.WrittenLaws.{sets_more}
use Rattle.encoding.specs.Parsed.{Parsed}
use Rattle.encoding.specs.Places.{InFile}
use Rattle.file_parts.specs.Numbers.{two_at_lem, count_at_lem, count_inside}
use Rattle.file_parts.specs.Parts.{ListRead, PartTells, part_as}

-- an entry of the n whose kinds these are, and no name
unfoldable pub plain_formula : List ℕ → ℕ → ℕ → Bool
plain_formula ks n e = ltb e n && not (eqb (get_or ks e 0) Kind.NAME)

-- and not below the floor
unfoldable pub may_follow_lem : List ℕ → ℕ → ℕ → ℕ → Bool
unfolding plain_formula
may_follow_lem ks n c e = fits_from (plain_formula ks n) c e

module _ (ks : List ℕ) (n c e : ℕ) where
  pub below_floor : e < c → false ≡ may_follow_lem ks n c e
  unfolding may_follow_lem plain_formula
  below_floor h = rw (lt-leb c e h) refl

  module _ (f : c ≤ e) where
    pub out_of_range : n ≤ e → false ≡ may_follow_lem ks n c e
    unfolding may_follow_lem plain_formula
    out_of_range h = rw (le-leb c e f, le-ltb e n h) refl

    pub by_kind : e < n → not (eqb (get_or ks e 0) Kind.NAME) ≡ may_follow_lem ks n c e
    unfolding may_follow_lem plain_formula
    by_kind h = rw (le-leb c e f, lt-ltb e n h) refl

-- a member at a place, from a floor on
unfoldable pub member_at_lem : List ℕ → ℕ → ℕ → List ℕ → ℕ → Got ℕ
unfolding plain_formula
member_at_lem ks n c s at = guard (fits_from (plain_formula ks n) c) 14 (two early) (drop at s) at

module _ (ks : List ℕ) (n c : ℕ) (s : List ℕ) (at : ℕ) where
  pub member_cut : {m q : ℕ} → two_at_lem early s at ≡ fault m q → member_at_lem ks n c s at ≡ fault m q
  unfolding two_at_lem member_at_lem plain_formula
  member_cut h = guard_cut (fits_from (plain_formula ks n) c) 14 (two early) (drop at s) at h

  module _ {limit v o : ℕ} (h : Reached s limit (two_at_lem early s at) v o) {fit : Bool} (test : fit ≡ may_follow_lem ks n c v) where
    pub member_unfit : not fit ≡ true → member_at_lem ks n c s at ≡ fault 14 at
    unfolding two_at_lem member_at_lem may_follow_lem plain_formula
    member_unfit u = guard_fails (fits_from (plain_formula ks n) c) 14 (two early) (drop at s) at h.found (sym test ∙ not-true fit u)

    pub member_whole : not fit ≡ false → Reached s limit (member_at_lem ks n c s at) v o
    unfolding two_at_lem member_at_lem may_follow_lem plain_formula
    member_whole f =
        record {
          found = guard_passes (fits_from (plain_formula ks n) c) 14 (two early) (drop at s) at h.found (sym test ∙ not-false fit f);
          inside = h.inside;
          near = h.near;
        }

-- the members stand from a start on, and what was there before unchanged beside them
pub record MembersStored (start : ℕ) (ms₀ ms : List ℕ) (l : List ℕ) : Type 0 where
  pub members : ms ≡ sets ms₀ start l

-- m members from a place on
unfoldable pub members_from : List ℕ → ℕ → ℕ → List ℕ → ℕ → Got (List ℕ)
unfolding plain_formula
members_from ks n m s at = times (λ c. guard (fits_from (plain_formula ks n) c) 14 (two early)) (λ _ x. suc x) m 0 (drop at s) at

-- the members of a goal, and where they are in a file
unfoldable pub members_by : List ℕ → ℕ → Parser (List ℕ)
unfolding plain_formula times
members_by ks n s at = rising (count 1 24 12 (two early)) (plain_formula ks n) 14 (two early) s at

unfoldable pub members_at : List ℕ → ℕ → List ℕ → ℕ → Got (List ℕ)
unfolding members_by
members_at ks n s at = members_by ks n (drop at s) at

-- the last of sixteen goals begins at offset 2,294 or before
pub members_place : (s : List ℕ) (at : ℕ) → InFile s 2294 at → {m o : ℕ} → Reached s (at + 2) (count_at_lem 1 24 12 early s at) m o → InFile s 2296 o × (m ≤ 24)
members_place s at p h = (record { within = h.inside; low = omega (arith, h.near, p.low) }, (count_inside early s at 1 24 12 h).1)

module _ (ks : List ℕ) (n : ℕ) (s : List ℕ) (at : ℕ) where
  pub members_cut : {m q : ℕ} → count_at_lem 1 24 12 early s at ≡ fault m q → members_at ks n s at ≡ fault m q
  unfolding members_at count_at_lem plain_formula times
  members_cut h = counted_cut (λ c. guard (fits_from (plain_formula ks n) c) 14 (two early)) (λ _ x. suc x) (count 1 24 12 (two early)) (drop at s) at h

  module _ {m o : ℕ} (h : Reached s (at + 2) (count_at_lem 1 24 12 early s at) m o) where
    pub members_tell : (Stored : List ℕ → Type 0) (r : Parsed ℕ) → PartTells s (o + 2 * m) 24 (members_from ks n m s o) Stored r → PartTells s (at + 50) 24 (members_at ks n s at) Stored r
    unfolding members_at members_from count_at_lem plain_formula times
    members_tell Stored r t =
        part_as s 24 Stored r (omega (arith, h.near, count_inside early s at 1 24 12 h))
        (counted_starts (λ c. guard (fits_from (plain_formula ks n) c) 14 (two early)) (λ _ x. suc x) (count 1 24 12 (two early)) (drop at s) at h.found) t

-- i of m members are read and stored, and the next is not below the floor
pub record Listed (ks : List ℕ) (n : ℕ) (s : List ℕ) (from m start : ℕ) (ms₀ : List ℕ) (i at floor : ℕ) (ms : List ℕ) : Type 0 where
  pub list : List ℕ
  pub walking : Walking (λ c. guard (fits_from (plain_formula ks n) c) 14 (two early)) (λ _ x. suc x) (members_from ks n m s from) m i list floor (drop at s) at
  pub stored : ms ≡ sets ms₀ start list
  pub within : at ≤ length s
  pub near : at ≤ from + 2 * i

module _ (ks : List ℕ) (n : ℕ) (s : List ℕ) (from m start : ℕ) (ms₀ : List ℕ) where
  abbrev p : ℕ → List ℕ → ℕ → Got ℕ
  p c = guard (fits_from (plain_formula ks n) c) 14 (two early)

  pub none_listed : from ≤ length s → Listed ks n s from m start ms₀ 0 from 0 ms₀
  unfolding members_from plain_formula
  none_listed h =
      record { list = []; walking = walk_begins p (λ _ x. suc x) m 0 (drop from s) from; stored = refl; within = h; near = omega arith }

  module _ {i at floor : ℕ} {ms : List ℕ} (e : Listed ks n s from m start ms₀ i at floor ms) where
    pub listing_stops : i < m → {k q : ℕ} → member_at_lem ks n floor s at ≡ fault k q → members_from ks n m s from ≡ fault k q
    unfolding member_at_lem plain_formula
    listing_stops h f = walk_stops p (λ _ x. suc x) e.walking h f

    pub one_listed : i < m → {v o : ℕ} → Reached s (at + 2) (member_at_lem ks n floor s at) v o
        → Listed ks n s from m start ms₀ (i + 1) o (v + 1) (set ms (start + i) v)
    unfolding member_at_lem plain_formula
    one_listed h {v} {o} r =
        let up : suc v ≡ v + 1 = omega arith in
        record {
          list = e.list ++ (v ∷ []);
          walking = rw up at (walk_steps p (λ _ x. suc x) e.walking h r.found);
          stored =
              ap (λ (u : List ℕ). set u (start + i) v) e.stored ∙ ap (λ (k : ℕ). set (sets ms₀ start e.list) (start + k) v) (sym e.walking.many)
              ∙ sym (sets_more e.list ms₀ start v);
          within = r.inside;
          near = omega (arith, r.near, e.near);
        }

    pub all_listed : i ≤ m → m ≤ i → m ≤ 24 → ListRead s (from + 2 * m) 24 (members_from ks n m s from) (MembersStored start ms₀ ms) m at
    all_listed l h f =
        record {
          list = e.list;
          many = omega (arith, e.walking.many);
          few = f;
          reached = record { found = walk_ends p (λ _ x. suc x) e.walking h; inside = e.within; near = omega (arith, e.near) };
          stored = record { members = e.stored };
        }

-- the kinds that stand once the entries are stored tell the entries that may be members
same_formula : (es : Table) (old : List ℕ) (e : ℕ) → is_formula es e ≡ plain_formula (written (kind_column es) old) (length es) e
unfolding plain_formula
same_formula es old e = agree (is_formula es e) (formula_tells es e) (tells_as into from (and_tells (ltb_tells e (length es)) (not_tells (eqb_tells (get_or (written (kind_column es) old) e 0) Kind.NAME))))
  where
    agree : (a : Bool) {b : Bool} {P : Type 0} → Tells a P → Tells b P → a ≡ b
    agree true x y = sym (y.holds (x.says refl))
    agree false x y = sym (fails_holds y (λ h. false≢true (x.holds h)))

    into : (e < length es) × (get_or (written (kind_column es) old) e 0 ≡ Kind.NAME → ⊥) → Formula es e
    into (h, k) = record { inside = h; no_name = λ z. k (written_at (λ r. r.kind) es old e h ∙ z) }

    from : Formula es e → (e < length es) × (get_or (written (kind_column es) old) e 0 ≡ Kind.NAME → ⊥)
    from f = (f.inside, λ z. f.no_name (sym (written_at (λ r. r.kind) es old e f.inside) ∙ z))

-- the columns have the kinds that were read
same_kinds : (es : List Spelled) → kind_column (records_of es) ≡ kind_column (marked_of es)
unfolding column table_by
same_kinds [] = refl
same_kinds (e ∷ es) = ap (λ (l : List ℕ). e.kind ∷ l) (same_kinds es)

-- so the members are read the same in sight of the kinds alone
pub members_same : (es : List Spelled) (old : List ℕ) → members es ≡ members_by (written (kind_column (marked_of es)) old) (length es)
unfolding members members_by times is_formula plain_formula
members_same es old =
    ap (λ (ok : ℕ → Bool). rising (count 1 24 12 (two early)) ok 14 (two early)) (fun_ext (λ e. same_formula (records_of es) old e))
    ∙ ap (λ (ks : List ℕ). members_by (written ks old) (length (records_of es))) (same_kinds es)
    ∙ ap (λ (n : ℕ). members_by (written (kind_column (marked_of es)) old) n) (by_length record_of es)
