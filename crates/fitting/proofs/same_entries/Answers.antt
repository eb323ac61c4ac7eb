-- `same_entries` meets its contract: the columns are the same as far as the entries go, exactly where the tables are.
use Rattle.std.proofs.Common.{◌≡◌, refl, sym, ap, ◌∙◌, Bool, true, false, List, ℕ, ◌<◌, length, get_or, take, arith, true≢false}
use Rattle.std.proofs.lemmas.Bool.{ne_eqb}
use Rattle.std.proofs.lemmas.List.{get_or-take, ext_get_or}
use Rattle.std.specs.Cmp.Lexicographic.{same_text, other_text}
use Rattle.verdict.specs.Tells.{fails_holds}
use Rattle.formula.specs.Table.{Entry, Table, entry}
use Rattle.formula.specs.Plain.{table_of, table_of_entry}
use Rattle.joining.specs.FitTest.{same_entries_lem, same_entries_tells}
use Rattle.fitting.specs.SameEntries.{RowsSame, counts_differ, rows_all}
use Rattle.fitting.proofs.same_entries.Goals as goal
use Rattle.fitting.proofs.same_entries.Goals.{Start, then-eq, else-eq, then-count-other_count, else-count-other_count}

-- the same numbers in front, number by number
module _ (n : ℕ) (l m : List ℕ) where
  each_same : take n l ≡ take n m → (e : ℕ) → e < n → get_or l e 0 ≡ get_or m e 0
  each_same q e h = sym (get_or-take n l e 0 h) ∙ ap (λ (r : List ℕ). get_or r e 0) q ∙ get_or-take n m e 0 h

  front_same : length (take n l) ≡ n → length (take n m) ≡ n → ((e : ℕ) → e < n → get_or l e 0 ≡ get_or m e 0) → take n l ≡ take n m
  front_same p q each =
      ext_get_or 0 (take n l) (take n m) (p ∙ sym q) (λ e h.
      let k : e < n = omega (arith, p) in get_or-take n l e 0 k ∙ each e k ∙ sym (get_or-take n m e 0 k))

-- the tables of the two claims, which have as many entries
module _ (s : Start) (same : s.args.table.now.count ≡ s.args.other_count) where
  abbrev Same : Type 0
  Same = table_of s.args.table.now.kinds.now s.args.table.now.a.now s.args.table.now.b.now s.args.table.now.count ≡ table_of s.args.other_kinds.now s.args.other_a.now s.args.other_b.now s.args.other_count

  abbrev told : Bool
  told = same_entries_lem (table_of s.args.table.now.kinds.now s.args.table.now.a.now s.args.table.now.b.now s.args.table.now.count) (table_of s.args.other_kinds.now s.args.other_a.now s.args.other_b.now s.args.other_count)

  rows : Same → RowsSame s.args.table.now.kinds.now s.args.table.now.a.now s.args.table.now.b.now s.args.other_kinds.now s.args.other_a.now s.args.other_b.now s.args.table.now.count
  rows q e h =
      sym (table_of_entry s.args.table.now.kinds.now s.args.table.now.a.now s.args.table.now.b.now s.args.table.now.count e h) ∙ ap (λ (t : Table). entry t e) q
      ∙ table_of_entry s.args.other_kinds.now s.args.other_a.now s.args.other_b.now s.args.other_count e (omega arith)

  -- as long as a slice of so many is
  abbrev Front : List ℕ → List ℕ → Type 0
  Front l m =
      length (take s.args.table.now.count l) ≡ s.args.table.now.count → length (take s.args.table.now.count m) ≡ s.args.table.now.count
      → take s.args.table.now.count l ≡ take s.args.table.now.count m

  kinds_front : Same → Front s.args.table.now.kinds.now s.args.other_kinds.now
  kinds_front q i j = front_same _ _ _ i j (λ e h. ap (λ (x : Entry). x.kind) (rows q e h))

  a_front : Same → Front s.args.table.now.a.now s.args.other_a.now
  a_front q i j = front_same _ _ _ i j (λ e h. ap (λ (x : Entry). x.a) (rows q e h))

  b_front : Same → Front s.args.table.now.b.now s.args.other_b.now
  b_front q i j = front_same _ _ _ i j (λ e h. ap (λ (x : Entry). x.b) (rows q e h))

  no : (Same → ⊥) → false ≡ told
  no d = sym (fails_holds (same_entries_tells _ _) d)

  last : (r : Bool) → (r ≡ true → RowsSame s.args.table.now.kinds.now s.args.table.now.a.now s.args.table.now.b.now s.args.other_kinds.now s.args.other_a.now s.args.other_b.now s.args.table.now.count) → (r ≡ false → Same → ⊥) → r ≡ told
  last true agree differ = rows_all _ _ _ _ _ _ _ _ same (agree refl)
  last false agree differ = no (differ refl)

pub returns-then-eq-2 : goal.returns-then-eq-2
returns-then-eq-2 c =
    let s = (goal.at.returns-then-eq-2 c).Start in
    elim c.if-eq.branch [
      | then-eq w ↦ elim c.if-count-other_count.branch [
        | then-count-other_count u ↦
            last s u.if-count-other_count.true c.eq-then-eq-2.result
            (λ r e h.
            let k = each_same _ _ _ (same_text _ _ (sym w.if-eq.true ∙ u.value-is ∙ u.eq.ensures)) e h in
            let a = each_same _ _ _ (same_text _ _ (sym c.if-eq-2.true ∙ w.value-is ∙ w.eq-then-eq.ensures)) e h in
            let b = each_same _ _ _ (same_text _ _ (sym r ∙ c.eq-then-eq-2.ensures)) e h in
            rw (k, a, b) refl)
            (λ r q. other_text _ _ (sym r ∙ c.eq-then-eq-2.ensures) (b_front s u.if-count-other_count.true q (omega arith) (omega arith)))
        | else-count-other_count u ↦ absurd (true≢false (sym w.if-eq.true ∙ u.value-is ∙ ne_eqb _ _ u.if-count-other_count.false))
      ]
      | else-eq w ↦ absurd (true≢false (sym c.if-eq-2.true ∙ w.value-is ∙ w.if-eq.false))
    ]

pub returns-else-eq-2 : goal.returns-else-eq-2
returns-else-eq-2 c =
    let s = (goal.at.returns-else-eq-2 c).Start in
    c.if-eq-2.false ∙ elim c.if-count-other_count.branch [
      | then-count-other_count u ↦
          no s u.if-count-other_count.true (λ q. elim c.if-eq.branch [
            | then-eq w ↦ other_text _ _ (sym c.if-eq-2.false ∙ w.value-is ∙ w.eq-then-eq.ensures) (a_front s u.if-count-other_count.true q (omega arith) (omega arith))
            | else-eq w ↦ other_text _ _ (sym w.if-eq.false ∙ u.value-is ∙ u.eq.ensures) (kinds_front s u.if-count-other_count.true q (omega arith) (omega arith))
          ])
      | else-count-other_count u ↦ counts_differ _ _ _ _ _ _ _ _ u.if-count-other_count.false
    ]
