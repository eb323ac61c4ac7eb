-- Before the first round: the columns are those that the rounds go by, and nothing stands.
use Rattle.std.specs.Prelude.{◌≡◌, refl, Bool, true, false, List, ◌∷◌, ℕ, zero, suc, ◌+◌, ◌*◌, ◌<◌, ◌≤◌, length, get_or}
use Rattle.std.proofs.Common.{sym, ap, subst, ◌∙◌, inl, inr, arith, eq-eqb}
use Rattle.verdict.specs.Tests.{keep}
use Rattle.formula.specs.Table.{Table}
use Rattle.formula.specs.Shape.{two, Two, shape}
use Rattle.formula.specs.Plain.{table_of, table_of_length}
use Rattle.conditions.specs.WellFormedLaws.{operand_below}
use Rattle.conditions.specs.Formed.{InBounds}
use Rattle.conditions.specs.TestLaws.{free_set}
use Rattle.operands.specs.OperandBounds.{plain_shape_lem}
use Rattle.conditions.specs.KindShapes.{plain_shape}
use Rattle.name_sets.specs.NameSets.{holds}
use Rattle.name_sets.specs.Ordered.{Bits}
use Rattle.name_sets.specs.RowWords.{row_of}
use Rattle.scopes.specs.RowMarks.{RowsBelow}
use Rattle.scopes.specs.EntryRows.{placed_all}
use Rattle.numbering.specs.Only.{only, marks, range}
use Rattle.numbering.specs.Forms.{names}
use Rattle.numbering.specs.Count.{tally, tally_local}
use Rattle.numbering.specs.FilledCanon.{free_test}
use Rattle.thinning.specs.Marked.{among}
use Rattle.thinning.specs.Columns.{IsTwo, Prepared}
use Rattle.one_level.specs.Kinds.{kind_of, first_of, second_of, kind_back, first_back, second_back, kind_two}
use Rattle.rounds.specs.Stand.{left, left_is, left_place, none_stand}
use Rattle.rounds.specs.Rounds.{Fixed, Between}
use Rattle.numbers.specs.Numbered.{Numberable}

marks_alike : (g g' h h' : ℕ → Bool) (m i : ℕ) → ((x : ℕ) → x < i + m → g x ≡ g' x) → ((x : ℕ) → x < i + m → h x ≡ h' x)
    → marks g (only h (range i m)) ≡ marks g' (only h' (range i m))
unfolding marks only range
marks_alike g g' h h' zero i G H = refl
marks_alike g g' h h' (suc m) i G H =
    rw (H i (omega arith)) (go (h' i) (marks_alike g g' h h' m (suc i) (λ x l. G x (omega arith)) (λ x l. H x (omega arith))))
  where
    go : (b : Bool) → marks g (only h (range (suc i) m)) ≡ marks g' (only h' (range (suc i) m))
        → marks g (keep b i (only h (range (suc i) m))) ≡ marks g' (keep b i (only h' (range (suc i) m)))
    go true z = rw (G i (omega arith)) (ap (λ (l : List Bool). g' i ∷ l) z)
    go false z = z

module _ {ks xs ys : List ℕ} {n : ℕ} {fs ts us vs bs : List ℕ} (given : Numberable ks xs ys n) (P : Prepared ks xs ys n fs ts bs us vs n)
    (rows : RowsBelow (row_of fs) (free_set (table_of ks xs ys n)) n) (room : 4 * n ≤ length fs) where
  abbrev T : Table
  T = table_of ks xs ys n

  abbrev p : ℕ → ℕ → Bool
  p = free_test T

  placed : (w : ℕ) → InBounds T w
  placed = placed_all T (λ w h. given.placed w (omega (arith, table_of_length ks xs ys n)))

  row_is : (d : ℕ) → d < n → (x : ℕ) → x < n → holds (row_of fs d) x ≡ p d x
  row_is d h x l = rows d h x (omega (arith, given.small))

  total-is : (d : ℕ) → d < n → tally (holds (row_of fs d)) n ≡ tally (p d) n
  total-is d h = tally_local (holds (row_of fs d)) (p d) n (row_is d h)

  in_rows : (a e : ℕ) → a < n → e < n → among (row_of fs e) (row_of fs a) n ≡ marks (p a) (names T p e)
  in_rows a e A E =
      marks_alike (holds (row_of fs a)) (p a) (holds (row_of fs e)) (p e) n 0 (λ x l. row_is a A x (omega arith)) (λ x l. row_is e E x (omega arith))
      ∙ ap (λ (m : ℕ). marks (p a) (only (p e) (range 0 m))) (sym (table_of_length ks xs ys n))

  -- an or, or an and, by its fields
  module _ (e a b : ℕ) (o : Two) (E : e < n) (q : shape T e ≡ two o a b) where
    plain : plain_shape (get_or ks e 0) (get_or xs e 0) (get_or ys e 0) ≡ two o a b
    plain = sym (plain_shape_lem ks xs ys n e E) ∙ q

    of_kind : kind_of (two o a b) ≡ get_or ks e 0
    of_kind = sym (ap kind_of plain) ∙ kind_back (get_or xs e 0) (get_or ys e 0) (get_or ks e 0) (given.known e E)

    is_two : IsTwo (get_or ks e 0)
    is_two = let (lo, hi) = kind_two o a b in (omega (arith, of_kind), omega (arith, of_kind))

    a_is : a ≡ get_or xs e 0
    a_is =
        let (lo, hi) = kind_two o a b in
        sym (ap first_of plain) ∙ first_back (get_or xs e 0) (get_or ys e 0) (get_or ks e 0) (omega (arith, of_kind)) (given.known e E)

    b-is : b ≡ get_or ys e 0
    b-is =
        let (lo, hi) = kind_two o a b in
        sym (ap second_of plain) ∙ second_back (get_or xs e 0) (get_or ys e 0) (get_or ks e 0) (omega (arith, of_kind)) (omega (arith, of_kind))

    firsts : Bits (row_of us e) (marks (p a) (names T p e))
    firsts =
        let l = operand_below T given.wf e a q (inl refl) in
        subst (λ (m : List Bool). Bits (row_of us e) m)
        (ap (λ (m : ℕ). among (row_of fs e) (row_of fs m) n) (sym a_is) ∙ in_rows a e (omega arith) E) (P.firsts e E is_two (omega (arith, a_is)))

    seconds : Bits (row_of vs e) (marks (p b) (names T p e))
    seconds =
        let l = operand_below T given.wf e b q (inr refl) in
        subst (λ (m : List Bool). Bits (row_of vs e) m)
        (ap (λ (m : ℕ). among (row_of fs e) (row_of fs m) n) (sym b-is) ∙ in_rows b e (omega arith) E) (P.seconds e E is_two (omega (arith, b-is)))

  fixed : Fixed ks xs ys n fs ts us vs
  fixed = record {
    wf = given.wf;
    placed = placed;
    columns = record { small = given.small; known = given.known; totals = λ e h. P.totals e h ∙ total-is e h; firsts = firsts; seconds = seconds };
    rows = rows;
    row_room = room;
  }

  counts : (e : ℕ) → e < n → get_or bs e 0 ≡ left n p e (suc n)
  counts e h =
      P.bounds e h ∙ ap (λ (m : ℕ). m + 1) (total-is e h ∙ sym (left_is n p e n (omega arith))) ∙ omega arith
      ∙ sym (left_place n p e n (rw (eq-eqb n n refl) refl))

  pub begins : {rs ss : List ℕ} → 256 * n ≤ length rs → 8 * n ≤ length ss → Between ks xs ys n fs ts us vs rs bs ss (n + 1)
  begins {rs} {ss} cells marks = record {
    fixed = fixed;
    within = omega arith;
    stands = record {
      room = record { small = given.small; totals = P.total_count; bounds = P.bound_count; firsts = P.first_room; seconds = P.second_room; cells = cells };
      mark_room = marks;
      stand = none_stand ks xs ys n p rs bs counts;
      marked = λ k f O. none k f O;
    };
    counts = λ e h. counts e h ∙ ap (left n p e) (omega arith);
  }
    where
      none : {A : Type 0} (k f : ℕ) → (f < n) × (get_or bs f 0 ≤ k) × (k ≤ tally (p f) n) → A
      none k f (i, a, b) = absurd (omega (arith, P.bounds f i, total-is f i))
