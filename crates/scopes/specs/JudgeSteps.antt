-- one step of the judge of 20, 71 and 21 to 23 over a table in plain numbers, case by case
use Rattle.std.specs.Prelude.{◌≡◌, ◌≢◌, List, Bool, not, ◌||◌, ◌&&◌, ℕ, suc, ◌+◌, ◌*◌, ◌-◌, ◌<◌, ◌≤◌, eqb, ltb, length, get_or}
use Rattle.std.proofs.Math.Path.{refl, ap, sym}
use Rattle.std.proofs.Common.{◌∙◌, add-one, leb-false}
use Rattle.std.proofs.Math.Bool.{true, false}
use native.Mathlib.Omega.{arith}
use Rattle.verdict.specs.Tests.{choose}
use Rattle.verdict.specs.Verdict.{Verdict, accepted, refused, pick, scan}
use Rattle.verdict.specs.VerdictLaws.{scan_holds, scan_first}
use Rattle.formula.specs.Kind
use Rattle.formula.specs.Table.{Table}
use Rattle.formula.specs.Shape.{shape}
use Rattle.formula.specs.Plain.{table_of, table_of_length}
use Rattle.formula.specs.FieldLaws.{within_tells}
use Rattle.formula.specs.Fields.{is_fixpoint_lem}
use Rattle.conditions.specs.Rows.{has}
use Rattle.conditions.specs.Judge.{far, free_row, open_row, frees, opens, marks, low, loose, plainly, judge_by, judge_table}
use Rattle.conditions.specs.TestLaws.{free_set, open_set}
use Rattle.operands.specs.OperandBounds.{out_of, number_at_lem, FirstFault, number-none, plain_shape_lem, out_one}
use Rattle.name_sets.specs.NameSets.{holds, Marks}
use Rattle.name_sets.specs.RowWords.{row_of, with_row}
use Rattle.name_sets.specs.MarksBelow.{MarksBelow, below_none, below_with}
use Rattle.name_sets.specs.declared.Names.{Names}
use Rattle.scopes.specs.RowMarks.{RowsBelow, words_more}
use Rattle.scopes.specs.EntryRows.{PlacesOf, MadeAt, operands, free_made, open_made}
use Rattle.scopes.specs.Faults.{mixed_at, fault_at, Seen, mu_marks, nu_marks}
use Rattle.scopes.specs.declared.entry.Places.{Places}

-- n entries from e on, by 21, 22 and 23
unfoldable pub names_from : Table → ℕ → ℕ → Verdict
unfolding scan low loose frees opens marks
names_from t n e =
    scan (λ e. not (low (frees t) e || (mixed_at t e || loose t (opens t) e))) (λ e. choose (low (frees t) e) 21 (choose (mixed_at t e) 22 23)) n e accepted

-- a refusal by three tests, as a number or 0, and as the scan has it
module _ (more : Verdict) (e : ℕ) where
  abbrev number : Bool → Bool → Bool → ℕ
  number l m o = choose l 21 (choose m 22 (choose o 23 0))

  abbrev turn : Bool → Bool → Bool → Verdict
  turn l m o = pick (not (l || (m || o))) more (refused (choose l 21 (choose m 22 23)) e)

  turn_refuses : (l m o : Bool) → (number l m o ≡ 0 → ⊥) → turn l m o ≡ refused (number l m o) e
  turn_refuses true m o f = refl
  turn_refuses false true o f = refl
  turn_refuses false false true f = refl
  turn_refuses false false false f = absurd (f refl)

  turn_passes : (l m o : Bool) → number l m o ≡ 0 → turn l m o ≡ more
  turn_passes true m o f = absurd (omega arith)
  turn_passes false true o f = absurd (omega arith)
  turn_passes false false true f = absurd (omega arith)
  turn_passes false false false f = refl

module _ (t : Table) where
  module _ (n : ℕ) (count : length t ≡ n) where
    -- neither 20 nor 71, and which of them
    passes : ℕ → Bool
    passes e = not (out_of t e || (far (shape t e) || plainly e))

    which : ℕ → ℕ
    which e = choose (out_of t e) 20 71

    passed : (e : ℕ) → number_at_lem t e ≡ 0 → passes e ≡ true
    unfolding passes
    passed e z = let (p, q) = number-none t e z in rw (p, q) refl

    caught : (e k : ℕ) → number_at_lem t e ≡ k → k ≢ 0 → (passes e ≡ false) × (which e ≡ k)
    unfolding passes which number_at_lem
    caught e k h z = go (out_of t e) (far (shape t e)) h
      where
        go : (a b : Bool) → choose a 20 (choose b 71 0) ≡ k → (not (a || (b || false)) ≡ false) × (choose a 20 71 ≡ k)
        go true b h = (refl, h)
        go false true h = (refl, h)
        go false false h = absurd (z (sym h))

    -- 20 or 71 at the first entry that earns one of them
    pub judge_fault : (k e : ℕ) → FirstFault t n k e → k ≢ 0 → refused k e ≡ judge_table plainly t
    unfolding judge_table judge_by passes which
    judge_fault k e f h =
        let (p, q) = caught e k (f.found (f.told h)) h in
        sym (scan_first passes which (length t) 0 _ (record {
          inside = (omega arith, omega (arith, f.told h));
          bad = p;
          numbered = q;
          before = λ w a b. passed w (f.before w b);
        }))

    -- else 21, 22 and 23 decide
    pub judge_names : ((w : ℕ) → w < n → number_at_lem t w ≡ 0) → {v : Verdict} → v ≡ names_from t n 0 → v ≡ judge_table plainly t
    unfolding judge_table judge_by names_from passes which
    judge_names f q =
        q ∙ ap (λ (m : ℕ). names_from t m 0) (sym count)
        ∙ sym (scan_holds passes which (length t) 0 _ (λ w a b. passed w (f w (omega arith))))

  pub names_end : (e : ℕ) → names_from t 0 e ≡ accepted
  unfolding names_from scan
  names_end e = refl

  pub names_fault : (n e : ℕ) → (fault_at t e ≡ 0 → ⊥) → names_from t (suc n) e ≡ refused (fault_at t e) e
  unfolding names_from scan fault_at
  names_fault n e f = turn_refuses (names_from t n (suc e)) e (low (frees t) e) (mixed_at t e) (loose t (opens t) e) f

  pub names_pass : (n e : ℕ) → fault_at t e ≡ 0 → names_from t (suc n) e ≡ names_from t n (suc e)
  unfolding names_from scan fault_at
  names_pass n e f = turn_passes (names_from t n (suc e)) e (low (frees t) e) (mixed_at t e) (loose t (opens t) e) f

-- where the pass over a table of at most 256 entries, none of which earns 20, stands before entry e: the rows of all entries passed, the
-- set of these entries, and that what is left of the pass decides
pub record Reached (ks xs ys : List ℕ) (n : ℕ) (fs os : List ℕ) (passed : Names) (e : ℕ) : Type 0 where
  pub small : n ≤ 256
  pub placed : (w : ℕ) → w < n → out_of (table_of ks xs ys n) w ≡ false
  pub within : e ≤ n
  pub free_rows : RowsBelow (row_of fs) (free_set (table_of ks xs ys n)) e
  pub open-rows : RowsBelow (row_of os) (open_set (table_of ks xs ys n)) e
  pub up_to_lem : MarksBelow passed e (λ n. true)
  pub left : names_from (table_of ks xs ys n) n 0 ≡ names_from (table_of ks xs ys n) (n - e) e

pub starts : (ks xs ys : List ℕ) (n : ℕ) → n ≤ 256 → ((w : ℕ) → w < n → out_of (table_of ks xs ys n) w ≡ false)
    → (fs os : List ℕ) (passed : Names) → Marks passed (λ n. false) → Reached ks xs ys n fs os passed 0
starts ks xs ys n s p fs os passed q = record {
  small = s;
  placed = p;
  within = omega arith;
  free_rows = λ d h. absurd (omega arith);
  open-rows = λ d h. absurd (omega arith);
  up_to_lem = below_none passed (λ n. true) q;
  left = ap (λ (m : ℕ). names_from (table_of ks xs ys n) m 0) (omega arith);
}

module _ {ks xs ys : List ℕ} {n : ℕ} {fs os : List ℕ} {passed : Names} {e : ℕ} (now : Reached ks xs ys n fs os passed e) where
  abbrev t : Table
  t = table_of ks xs ys n

  pub ends : n ≤ e → accepted ≡ names_from t n 0
  ends h = sym (now.left ∙ ap (λ (m : ℕ). names_from t m e) (omega arith) ∙ names_end t e)

  module _ (inside : e < n) where
    abbrev k : ℕ
    k = get_or ks e 0

    abbrev a : ℕ
    a = get_or xs e 0

    abbrev b : ℕ
    b = get_or ys e 0

    one_more : n - e ≡ suc (n - (e + 1))
    one_more = omega arith

    pub refuses : {number : ℕ} → number ≡ fault_at t e → (number ≡ 0 → ⊥) → refused number e ≡ names_from t n 0
    refuses q f =
        ap (λ (m : ℕ). refused m e) q
        ∙ sym (now.left ∙ ap (λ (m : ℕ). names_from t m e) one_more ∙ names_fault t (n - (e + 1)) e (λ z. f (q ∙ z)))

    module _ {at : Places} (is : PlacesOf xs ys e at) where
      body_made : is_fixpoint_lem k ≡ true → Marks (row_of os at.left) (has (open_set t a))
      body_made h =
          let (l, m) = (within_tells Kind.MU Kind.NU k).says h in
          let below : a < e = leb-false e a (sym (out_one k a b e (omega arith) m) ∙ operands ks xs ys n now.placed e inside) in
          rw (is.left_is below) (now.open-rows a below)

      -- the free names of entry e, and the entries up to e
      module _ (free upto : Names) (made : MadeAt k e at free_row (row_of fs) free) (more : Marks upto (λ n. holds passed n || eqb n e)) where
        free_row_lem : Marks free (has (free_set t e))
        free_row_lem = free_made ks xs ys n now.placed e inside is (row_of fs) now.free_rows free made

        up_to_e : MarksBelow upto (e + 1) (λ n. true)
        up_to_e = below_with passed (λ n. true) e now.up_to_lem refl upto more

        pub seen : (mus nus : Names) → Marks mus (λ x. ltb x n && eqb (get_or ks x 0) Kind.MU) → Marks nus (λ x. ltb x n && eqb (get_or ks x 0) Kind.NU)
            → (body : Names) → body ≡ row_of os at.left → Seen t e k a b free body upto mus nus
        seen mus nus u v body q =
            let l : length t ≡ n = table_of_length ks xs ys n in
            record {
              small = omega (arith, now.small);
              inside = omega arith;
              shaped = plain_shape_lem ks xs ys n e inside;
              free_row_lem = free_row_lem;
              body_row = rw q body_made;
              up_to_lem = up_to_e;
              mu_row = mu_marks ks xs ys n mus u;
              nu_row = nu_marks ks xs ys n nus v;
            }

        pub goes_on : (reach : Names) → MadeAt k e at open_row (row_of os) reach → fault_at t e ≡ 0 → 4 * n ≤ length fs → 4 * n ≤ length os
            → Reached ks xs ys n (with_row fs e free) (with_row os e reach) upto (e + 1)
        goes_on reach y f free_long open_long = record {
          small = now.small;
          placed = now.placed;
          within = omega arith;
          free_rows = words_more (free_set t) fs e now.free_rows free (omega arith) free_row_lem;
          open-rows =
              words_more (open_set t) os e now.open-rows reach (omega arith)
              (open_made ks xs ys n now.placed e inside is (row_of os) now.open-rows reach y);
          up_to_lem = up_to_e;
          left = now.left ∙ ap (λ (m : ℕ). names_from t m e) one_more ∙ names_pass t (n - (e + 1)) e f ∙ ap (names_from t (n - (e + 1))) (sym (add-one e));
        }
