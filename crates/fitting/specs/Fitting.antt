-- two goals over one table: what is asked of them, and what is told of the joined goal
use Rattle.std.specs.Prelude.{◌≡◌, Bool, true, false, not, ◌&&◌, List, ◌∷◌, ℕ, ◌+◌, ◌<◌, ◌≤◌, length, get_or, take, Option, Some, None}
use Rattle.std.proofs.Math.Path.{refl}
use borrow.Author.Tests.{eq-eqb, ne_eqb, lt-ltb, le-ltb}
use Rattle.verdict.specs.Lists.{Rising}
use Rattle.verdict.specs.Tells.{tells_self, eqb_tells, ltb_tells, and_tells}
use Rattle.formula.specs.Kind
use Rattle.formula.specs.Table.{Table, kind}
use Rattle.formula.specs.Target.{target, target_a, target_b}
use Rattle.conditions.specs.WellFormed.{WellFormed}
use Rattle.sequents.specs.declared.numbered.NumberedTable.{NumberedTable}
use Rattle.sequents.specs.Columned.{numbered}
use Rattle.sequents.specs.CodeSet.{Holds}
use Rattle.sequents.specs.Part.{part}
use Rattle.sequents.specs.Placed.{Members}
use Rattle.joining.specs.Goals.{holds, rest, joined_goal}
use Rattle.joining.specs.FitTest.{same_formulas, fits}
use Rattle.fitting.specs.Focused.{focused_keys}

-- entry e is "A and B" in a table that has passed 20 to 23
pub record IsAnd (t : NumberedTable) (e : ℕ) : Type 0 where
  pub well : WellFormed (numbered t)
  pub inside : e < t.columns.count
  pub of_kind : get_or t.columns.kinds.now e 0 ≡ Kind.AND

-- two goals over such a table, of which the first rises and has at most 24 members
pub record Goals (t : NumberedTable) (ms : List ℕ) (i j : ℕ) (os : List ℕ) (h k : ℕ) : Type 0 where
  pub well : WellFormed (numbered t)
  pub first : Members t.columns.count ms i j
  pub few : j ≤ i + 24
  pub rising : Rising (part ms i j)
  pub second : Members t.columns.count os h k

-- the words hold the formulas of two goals
pub record RestHeld (t : Table) (w l v m : List ℕ) : Type 0 where
  pub first : Holds w (focused_keys t l)
  pub second : Holds v (focused_keys t m)

-- the part of 73 that is left once the entry is "A and B" and the rest is found: s
unfoldable pub rest_fits_lem : Table → ℕ → List ℕ → List ℕ → List ℕ → Bool
unfolding holds same_formulas target
rest_fits_lem t e l m s = not (holds t s e) && (same_formulas t l (target_a t e ∷ s) && same_formulas t m (target_b t e ∷ s))

-- the joined goal stands in front of the array, or the two do not fit
pub record GoalJoined (t : Table) (e : ℕ) (l r : List ℕ) (n : ℕ) (new : List ℕ) : Type 0 where
  pub fit : fits t e l r ≡ true
  pub many : n ≡ length (joined_goal t e l r)
  pub stands : take n new ≡ joined_goal t e l r
  pub long : length new ≡ 24

abbrev pub Fitted : Table → ℕ → List ℕ → List ℕ → Option ℕ → List ℕ → Type 0
Fitted t e l r (Some n) new = GoalJoined t e l r n new
Fitted t e l r None new = fits t e l r ≡ false

module _ (t : Table) (e : ℕ) (l r : List ℕ) where
  -- no "A and B"
  pub other_entry : (kind t e ≡ Kind.AND → ⊥) → fits t e l r ≡ false
  unfolding fits
  other_entry d = rw (ne_eqb (kind t e) Kind.AND d) refl

  -- the tests in the program's order
  abbrev all : Bool → Bool → Bool → Bool → Bool
  all a b c d = a && (b && (c && d))

  too_many : (a b c : Bool) → all a b c false ≡ false
  too_many true true true = refl
  too_many true true false = refl
  too_many true false c = refl
  too_many false b c = refl

  in_order : (a b c : Bool) → all a b c true ≡ (c && (a && b))
  in_order true true true = refl
  in_order true true false = refl
  in_order true false true = refl
  in_order true false false = refl
  in_order false b true = refl
  in_order false b false = refl

  -- the rest with A's target, with B's, and that the entry is no member of the rest
  abbrev first_fits : Bool
  first_fits = same_formulas t l (target_a t e ∷ rest t l r)

  abbrev second_fits : Bool
  second_fits = same_formulas t r (target_b t e ∷ rest t l r)

  abbrev apart : Bool
  apart = not (holds t (rest t l r) e)

  -- goals that fit do so at an "A and B", and leave room for it
  pub fit_says : fits t e l r ≡ true → (kind t e ≡ Kind.AND) × (length (rest t l r) < 24)
  unfolding fits
  fit_says h =
      let (k, (_, (_, (_, few)))) =
      (and_tells (eqb_tells (kind t e) Kind.AND)
      (and_tells (tells_self first_fits) (and_tells (tells_self second_fits) (and_tells (tells_self apart) (ltb_tells (length (rest t l r)) 24))))).says h in
      (k, few)

  module _ (k : kind t e ≡ Kind.AND) where
    pub many_left : 24 ≤ length (rest t l r) → fits t e l r ≡ false
    unfolding fits
    many_left h = rw (eq-eqb (kind t e) Kind.AND k, le-ltb (length (rest t l r)) 24 h) (too_many first_fits second_fits apart)

    pub few_left : length (rest t l r) < 24 → fits t e l r ≡ rest_fits_lem t e l r (rest t l r)
    unfolding fits rest_fits_lem
    few_left h = rw (eq-eqb (kind t e) Kind.AND k, lt-ltb (length (rest t l r)) 24 h) (in_order first_fits second_fits apart)

-- what holds of the answer in an arm that knows which it is
module _ (t : Table) (e : ℕ) (l r new : List ℕ) {w : Option ℕ} (f : Fitted t e l r w new) where
  pub as_joined : {n : ℕ} → w ≡ Some n → GoalJoined t e l r n new
  as_joined q = rw q at f

  pub as_unfit : w ≡ None → fits t e l r ≡ false
  as_unfit q = rw q at f
