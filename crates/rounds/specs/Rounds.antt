-- What stands before a round, within it, and after it.
use Rattle.std.specs.Prelude.{◌≡◌, refl, ◌≢◌, ◌⊎◌, Bool, true, false, ◌||◌, List, ℕ, suc, ◌+◌, ◌*◌, ◌<◌, ◌≤◌, eqb, length, get_or, set}
use Rattle.std.proofs.Common.{sym, ap, ◌∙◌, inl, inr, true≢false, arith, length-set, get_or-set_same, get_or-set_other, eq-eqb, ne_eqb, le-leb}
use Rattle.std.proofs.Math.Decide.{dec_lt, ℕ_discrete}
use Rattle.verdict.specs.Tells.{Tells, fails_holds}
use Rattle.formula.specs.Kind
use Rattle.formula.specs.Table.{Table}
use Rattle.formula.specs.Fields.{is_fixpoint_lem}
use Rattle.formula.specs.Shape.{fix, name, Fix, shape, NoName}
use Rattle.formula.specs.TableLaws.{name_or_not}
use Rattle.formula.specs.Plain.{table_of}
use Rattle.conditions.specs.Free.{Free}
use Rattle.conditions.specs.WellFormed.{WellFormed}
use Rattle.conditions.specs.WellFormedLaws.{free_fix}
use Rattle.conditions.specs.Formed.{InBounds}
use Rattle.conditions.specs.Rows.{has}
use Rattle.conditions.specs.TestLaws.{free_set, free_tells}
use Rattle.conditions.specs.KindShapes.{name_kind}
use Rattle.operands.specs.OperandBounds.{plain_shape_lem}
use Rattle.name_sets.specs.NameSets.{holds, Marks}
use Rattle.name_sets.specs.RowWords.{row_of}
use Rattle.bits.specs.WordSet.{in_set}
use Rattle.numbering.specs.FilledCanon.{free_test}
use Rattle.one_level.specs.Kinds.{kind_fix}
use Rattle.one_level.specs.Fit.{cell, Fit}
use Rattle.one_level.specs.LevelTest.{Columns, kind_at}
use Rattle.searching.specs.Search.{Room, Candidate, Searched, Chosen, mark_of}
use Rattle.rounds.specs.Stand.{On, due, left, left_is, left_skip, left_place, due_late, few}
use Rattle.rounds.specs.Stand.{Stand, Turn}
use Rattle.rounds.specs.NumberMore.{name_stands, taken_stands, fresh_stands}
use Rattle.rounds.specs.Marked.{Marked, fit_marked, name_marked, formula_marked}

-- one number more for e: with one name fewer bound than bs had
pub record Placed (ks xs ys : List ℕ) (n : ℕ) (ts us vs bs rs ss moved new ns : List ℕ) (e : ℕ) : Type 0 where
  pub k : ℕ
  pub v : ℕ
  pub level : get_or bs e 0 ≡ k + 1
  pub chosen : Chosen ks xs ys n ts us vs bs rs ss ns k e v
  pub numbered : new ≡ set rs (256 * k + e) v
  pub counted : moved ≡ set bs e k

module _ (ks xs ys : List ℕ) (n : ℕ) (fs ts us vs : List ℕ) where
  abbrev table : Table
  table = table_of ks xs ys n

  abbrev is_free : ℕ → ℕ → Bool
  is_free = free_test table

  -- what does not change: the table, the free names, their counts, the operands' marks
  pub record Fixed : Type 0 where
    pub wf : WellFormed table
    pub placed : (w : ℕ) → InBounds table w
    pub columns : Columns ks xs ys n is_free ts us vs
    pub rows : (d : ℕ) → d < n → Marks (row_of fs d) (has (free_set table d))
    pub row_room : 4 * n ≤ length fs

  -- the numbers rs that stand by bs, and their marks ss
  pub record Stands (rs bs ss : List ℕ) : Type 0 where
    pub room : Room n ts us vs bs rs
    pub mark_room : 8 * n ≤ length ss
    pub stand : Stand ks xs ys n is_free rs bs
    pub marked : Marked ks xs ys n is_free rs bs ss

  -- between rounds: those of q and above are done
  pub record Between (rs bs ss : List ℕ) (q : ℕ) : Type 0 where
    pub fixed : Fixed
    pub within : q ≤ n + 1
    pub stands : Stands rs bs ss
    pub counts : (d : ℕ) → d < n → get_or bs d 0 ≡ left n is_free d q

  -- within the round of q, before entry e
  pub record Round (rs bs ss : List ℕ) (q e : ℕ) : Type 0 where
    pub fixed : Fixed
    pub within : q ≤ n
    pub upto : e ≤ q
    pub stands : Stands rs bs ss
    pub done : (d : ℕ) → d < e → get_or bs d 0 ≡ left n is_free d q
    pub todo : (d : ℕ) → d < n → e ≤ d → get_or bs d 0 ≡ left n is_free d (suc q)

module _ {ks xs ys : List ℕ} {n : ℕ} {fs ts us vs rs bs ss : List ℕ} (q : ℕ) (B : Between ks xs ys n fs ts us vs rs bs ss (q + 1)) where
  abbrev is_free_in : ℕ → ℕ → Bool
  is_free_in = free_test (table_of ks xs ys n)

  counted : (d : ℕ) → d < n → get_or bs d 0 ≡ left n is_free_in d (suc q)
  counted d h = B.counts d h ∙ ap (left n is_free_in d) (omega arith)

  pub round_begins : Round ks xs ys n fs ts us vs rs bs ss q 0
  round_begins = record {
    fixed = B.fixed;
    within = let h = B.within in omega arith;
    upto = omega arith;
    stands = B.stands;
    done = λ d h. absurd (omega arith);
    todo = λ d h l. counted d h;
  }

  -- a round of no fixpoint: nothing has it free
  pub round_of_none : q < n → is_fixpoint_lem (get_or ks q 0) ≡ false → Between ks xs ys n fs ts us vs rs bs ss q
  round_of_none h z = record {
    fixed = B.fixed;
    within = omega arith;
    stands = B.stands;
    counts = λ d l. counted d l ∙ left_skip n is_free_in d q (idle d);
  }
    where
      no_fixpoint : (σ : Fix) × (a : ℕ) × (shape (table_of ks xs ys n) q ≡ fix σ a) → ⊥
      no_fixpoint (σ, a, s) =
          let k = kind_at ks xs ys n is_free_in ts us vs B.fixed.columns q h s in
          let (lo, hi) = kind_fix σ a in
          true≢false (sym (rw (le-leb Kind.MU (get_or ks q 0) (omega arith), le-leb (get_or ks q 0) Kind.NU (omega arith)) refl) ∙ z)

      idle : (d : ℕ) → due n is_free_in d q ≡ false
      idle d =
          let x = B.fixed in
          rw (ne_eqb q n (λ z. omega arith)) (fails_holds (free_tells _ x.placed d q) (λ r. no_fixpoint (free_fix _ x.wf r)))

module _ {ks xs ys : List ℕ} {n : ℕ} {fs ts us vs rs bs ss : List ℕ} {q e : ℕ} (R : Round ks xs ys n fs ts us vs rs bs ss q e) where
  abbrev T : Table
  T = table_of ks xs ys n

  abbrev p : ℕ → ℕ → Bool
  p = free_test T

  abbrev Left : ℕ → ℕ → ℕ
  Left d x = left n p d x

  abbrev x : Fixed ks xs ys n fs ts us vs
  x = R.fixed

  abbrev tells : (d y : ℕ) → Tells (p d y) (Free T d y)
  tells = free_tells T x.placed

  pub round_ends : q ≤ e → Between ks xs ys n fs ts us vs rs bs ss q
  round_ends h = record { fixed = x; within = let w = R.within in omega arith; stands = R.stands; counts = λ d l. go d l (dec_lt d e) }
    where
      go : (d : ℕ) → d < n → Dec (d < e) → get_or bs d 0 ≡ Left d q
      go d l (yes b) = R.done d b
      go d l (no b) =
          let w = R.within in
          let u = R.upto in
          R.todo d l (omega arith) ∙ left_skip n p d q (due_late x.wf tells n d q (omega arith) (omega arith))

  -- the program's test
  pub due_tells : e < n → (b : Bool) → b ≡ (eqb q n || holds (row_of fs e) q) → b ≡ due n p e q
  due_tells h b z = z ∙ go (ℕ_discrete q n)
    where
      go : Dec (q ≡ n) → (eqb q n || holds (row_of fs e) q) ≡ due n p e q
      go (yes y) = rw (eq-eqb q n y) refl
      go (no y) = let w = R.within in rw (ne_eqb q n y) (x.rows e h q (omega (arith, R.stands.room.small)))

  module _ (E : e < q) where
    pub round_skips : due n p e q ≡ false → Round ks xs ys n fs ts us vs rs bs ss q (e + 1)
    round_skips z = record {
      fixed = x;
      within = R.within;
      upto = omega arith;
      stands = R.stands;
      done = λ d h. go d h (ℕ_discrete d e);
      todo = λ d h l. R.todo d h (omega arith);
    }
      where
        go : (d : ℕ) → d < e + 1 → Dec (d ≡ e) → get_or bs d 0 ≡ Left d q
        go d h (yes y) = let w = R.within in R.todo d (omega arith) (omega arith) ∙ left_skip n p d q (rw y z)
        go d h (no y) = R.done d (omega arith)

    module _ (D : due n p e q ≡ true) where
      turn : Turn ks xs ys n p rs bs q e
      turn = record {
        wf = x.wf;
        tells = tells;
        small = R.stands.room.small;
        cells = R.stands.room.cells;
        bounds = R.stands.room.bounds;
        stand = R.stands.stand;
        round = R.within;
        entry = E;
        done = R.done;
        todo = R.todo;
        is_due = D;
      }

      within_table : e < n
      within_table = let w = R.within in omega arith

      pub here : get_or bs e 0 ≡ suc (Left e q)
      here = R.todo e within_table (omega arith) ∙ left_place n p e q D

      pub level_small : Left e q < n
      level_small = omega (arith, left_is n p e q R.within, few x.wf tells n e q within_table R.within)

      module _ (v : ℕ) (ns : List ℕ) (c : Chosen ks xs ys n ts us vs bs rs ss ns (Left e q) e v) where
        abbrev k : ℕ
        k = Left e q

        abbrev new : List ℕ
        new = set rs (256 * k + e) v

        abbrev moved : List ℕ
        moved = set bs e k

        named : get_or ks e 0 ≡ Kind.NAME → shape T e ≡ name (get_or xs e 0)
        named y = plain_shape_lem ks xs ys n e within_table ∙ name_kind (get_or ks e 0) (get_or xs e 0) (get_or ys e 0) y

        proper : get_or ks e 0 ≢ Kind.NAME → NoName (shape T e)
        proper none = go (name_or_not (shape T e))
          where
            go : ((y : ℕ) × (shape T e ≡ name y)) ⊎ NoName (shape T e) → NoName (shape T e)
            go (inr r) = r
            go (inl (y, r)) = absurd (none (sym (kind_at ks xs ys n p ts us vs x.columns e within_table r)))

        abbrev i : ℕ
        i = get_or bs (get_or xs e 0) 0

        abbrev j : ℕ
        j = get_or bs (get_or ys e 0) 0

        abbrev Here : ℕ → Type 0
        Here = Candidate ks xs ys ts us vs bs rs k i j e

        -- the candidates are what stands and fits
        on : (f : ℕ) → f < n → Here f → On n p bs k f
        on f h c = (h, c.from, let t = x.columns.totals f h in omega (arith, c.upto))

        off : (f : ℕ) (O : On n p bs k f) → Fit ks xs ys ts rs us vs k i j e f → Here f
        off f O t = record { from = O.1; upto = let u = x.columns.totals f O.0 in omega (arith, O.2); fit = t }

        abbrev Settled : Type 0
        Settled = ((in_set ss (512 * k + mark_of ks xs ys rs i j e) ≡ false) × (v ≡ e)) ⊎ Searched n Here (cell rs k) e v

        -- a number of an entry that stands, or where none does, e itself
        settled_stands : NoName (shape T e) → Settled → Stand ks xs ys n p new moved
        settled_stands r (inl (u, z)) =
            let unmarked : (f : ℕ) → On n p bs k f → Fit ks xs ys ts rs us vs k i j e f → ⊥
            = λ f O t. true≢false (sym (fit_marked x.columns turn ss R.stands.marked r f O t) ∙ u) in
            fresh_stands turn v r ts us vs x.columns unmarked z
        settled_stands r (inr (inl (f, h, t, z))) = taken_stands turn v r ts us vs x.columns f (on f h t) t.fit z
        settled_stands r (inr (inr (none, z))) = fresh_stands turn v r ts us vs x.columns (λ f O t. none f O.0 (off f O t)) z

        stands : Stands ks xs ys n fs ts us vs new moved ns
        stands = go (ℕ_discrete (get_or ks e 0) Kind.NAME)
          where
            room : Room n ts us vs moved new
            room = let r = R.stands.room in record {
              small = r.small;
              totals = r.totals;
              bounds = length-set bs e k ∙ r.bounds;
              firsts = r.firsts;
              seconds = r.seconds;
              cells = omega (arith, length-set rs (256 * k + e) v, r.cells);
            }

            mark_room : 8 * n ≤ length ns
            mark_room = omega (arith, c.mark_count, R.stands.mark_room)

            go : Dec (get_or ks e 0 ≡ Kind.NAME) → Stands ks xs ys n fs ts us vs new moved ns
            go (yes y) =
                let (number, same) = c.of_name y in
                record {
                  room = room;
                  mark_room = mark_room;
                  stand = name_stands turn v (get_or xs e 0) (named y) number.written_out number.bound;
                  marked = rw same (name_marked x.columns turn ss R.stands.marked v (get_or xs e 0) (named y));
                }
            go (no y) =
                let (marks, settled) = c.of_formula y in
                record {
                  room = room;
                  mark_room = mark_room;
                  stand = settled_stands (proper y) settled;
                  marked = formula_marked x.columns turn ss R.stands.marked v (proper y) ns marks;
                }

        done : (d : ℕ) → d < e + 1 → Dec (d ≡ e) → get_or moved d 0 ≡ Left d q
        done d h (yes y) = let r = R.stands.room in rw y (get_or-set_same bs e k 0 (omega (arith, within_table, r.small, r.bounds)))
        done d h (no y) = get_or-set_other bs e d k 0 y ∙ R.done d (omega arith)

        places : Round ks xs ys n fs ts us vs new moved ns q (e + 1)
        places = record {
          fixed = x;
          within = R.within;
          upto = omega arith;
          stands = stands;
          done = λ d h. done d h (ℕ_discrete d e);
          todo = λ d h l. get_or-set_other bs e d k 0 (λ z. omega arith) ∙ R.todo d h (omega arith);
        }

      pub round_places : {moved new ns : List ℕ} → Placed ks xs ys n ts us vs bs rs ss moved new ns e
          → Round ks xs ys n fs ts us vs new moved ns q (e + 1)
      round_places {moved} {new} {ns} P =
          let k-is : P.k ≡ Left e q = let z = here in omega (arith, P.level) in
          rw (P.numbered, P.counted, k-is) (places P.v ns (rw k-is at P.chosen))
