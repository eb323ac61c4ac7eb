-- an entry's rows, where no entry of the table earns 20: made of the rows of its operands, they are those of its free and of its open names
use Rattle.std.specs.Prelude.{◌≡◌, List, false, ℕ, ◌<◌, ◌≤◌, length, get_or}
use Rattle.std.proofs.Common.{◌∙◌, sym, subst, inr, arith}
use Rattle.std.proofs.Math.Decide.{dec_lt, ℕ_discrete}
use Rattle.verdict.specs.Tells.{fails}
use Rattle.formula.specs.Kind
use Rattle.formula.specs.Table.{Table}
use Rattle.formula.specs.Shape.{Shape, shape}
use Rattle.formula.specs.TableLaws.{past_end}
use Rattle.formula.specs.Plain.{table_of, table_of_length}
use Rattle.conditions.specs.Conditions.{Bad}
use Rattle.conditions.specs.Formed.{InBounds}
use Rattle.conditions.specs.Rows.{Row, has}
use Rattle.conditions.specs.Judge.{free_row, open_row}
use Rattle.conditions.specs.TestLaws.{bad_tells, free_set, open_set, free_at, open_at}
use Rattle.conditions.specs.KindShapes.{plain_shape}
use Rattle.operands.specs.OperandBounds.{out_of, operands_out_lem, plain_shape_lem, out_none, out_other}
use Rattle.name_sets.specs.NameSets.{Marks}
use Rattle.name_sets.specs.declared.Names.{Names}
use Rattle.scopes.specs.RowMarks.{Made, RowsBelow, row_made}
use Rattle.scopes.specs.declared.entry.Places.{Places}

-- field A of entry e, and the places of its operands' rows
pub record PlacesOf (xs ys : List ℕ) (e : ℕ) (r : Places) : Type 0 where
  pub first-is : r.first ≡ get_or xs e 0
  pub left_within : r.left ≤ e
  pub left_is : get_or xs e 0 < e → r.left ≡ get_or xs e 0
  pub right_within : r.right ≤ e
  pub right_is : get_or ys e 0 < e → r.right ≡ get_or ys e 0

-- r is what a clause makes for entry e of kind k, of the rows at its places
abbrev pub MadeAt : ℕ → ℕ → Places → ((ℕ → Row) → ℕ → Shape → Row) → (ℕ → Names) → Names → Type 0
MadeAt k e at row rows r = (x y : Names) × (x ≡ rows at.left) × (y ≡ rows at.right) × Made row k at.first e x y r

pub placed_all : (t : Table) → ((w : ℕ) → w < length t → out_of t w ≡ false) → (w : ℕ) → InBounds t w
placed_all t f w = go (dec_lt w (length t))
  where
    go : Dec (w < length t) → InBounds t w
    go (yes h) = fails (bad_tells t w (shape t w)) (f w h)
    go (no h) = λ b. subst (Bad t w) (past_end t w (omega arith)) b

module _ (ks xs ys : List ℕ) (n : ℕ) (placed : (w : ℕ) → w < n → out_of (table_of ks xs ys n) w ≡ false) (e : ℕ) (inside : e < n) where
  abbrev t : Table
  t = table_of ks xs ys n

  abbrev k : ℕ
  k = get_or ks e 0

  abbrev a : ℕ
  a = get_or xs e 0

  abbrev b : ℕ
  b = get_or ys e 0

  all_placed : (w : ℕ) → InBounds t w
  all_placed = placed_all t (λ w h. placed w (omega (arith, table_of_length ks xs ys n)))

  pub operands : operands_out_lem e (plain_shape k a b) ≡ false
  operands = go (ℕ_discrete k Kind.NAME)
    where
      go : Dec (k ≡ Kind.NAME) → operands_out_lem e (plain_shape k a b) ≡ false
      go (yes q) = out_none k a b e (inr (omega arith))
      go (no q) = sym (out_other ks xs ys n e inside q) ∙ placed e inside

  shaped : shape t e ≡ plain_shape k a b
  shaped = plain_shape_lem ks xs ys n e inside

  module _ {at : Places} (is : PlacesOf xs ys e at) (rows : ℕ → Names) where
    row_here : (row : (ℕ → Row) → ℕ → Shape → Row) (f : ℕ → Row) → RowsBelow rows f e → f e ≡ row f e (plain_shape k a b)
        → (r : Names) → MadeAt k e at row rows r → Marks r (has (f e))
    row_here row f below clause r (x, y, p, q, m) =
        row_made f rows e below row k a b clause operands at.left at.right is.left_is is.right_is r (rw (p, q, is.first-is) at m)

    pub free_made : RowsBelow rows (free_set t) e → (r : Names) → MadeAt k e at free_row rows r → Marks r (has (free_set t e))
    free_made below = row_here free_row (free_set t) below (free_at t all_placed e (plain_shape k a b) shaped)

    pub open_made : RowsBelow rows (open_set t) e → (r : Names) → MadeAt k e at open_row rows r → Marks r (has (open_set t e))
    open_made below = row_here open_row (open_set t) below (open_at t all_placed e (plain_shape k a b) shaped)
