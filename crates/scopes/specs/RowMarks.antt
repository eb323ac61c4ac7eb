-- rows of marks as sets of names in words: how an entry's set is made from its operands' sets
use Rattle.std.specs.Prelude.{◌≡◌, refl, List, [], ◌⊎◌, Bool, true, false, not, ◌||◌, ◌&&◌, ℕ, ◌+◌, ◌*◌, ◌<◌, ◌≤◌, eqb, leb, length}
use Rattle.std.proofs.Common.{◌∙◌, true≢false, arith, below_more, leb-false}
use Rattle.verdict.specs.Tells.{tells_self, same_test, and_tells, or_tells, not_tells, eqb_tells}
use Rattle.formula.specs.Kind
use Rattle.formula.specs.Shape.{Shape, leaf, two, name, Leaf, Two}
use Rattle.conditions.specs.Rows.{Row, has, union, clear, single}
use Rattle.conditions.specs.RowLaws.{has_union, has_clear, has_single}
use Rattle.conditions.specs.Judge.{free_row, open_row}
use Rattle.conditions.specs.KindShapes.{plain_shape, two_kind, step_kind, fix_kind, name_kind, leaf_kind}
use Rattle.operands.specs.OperandBounds.{operands_out_lem}
use Rattle.name_sets.specs.NameSets.{holds, Marks}
use Rattle.name_sets.specs.RowWords.{row_of, with_row, row_other, row_same}
use Rattle.name_sets.specs.declared.Names.{Names}

union_has : (r s : Row) (n : ℕ) → has (union r s) n ≡ (has r n || has s n)
union_has r s n = same_test (has_union r s n) (or_tells (tells_self _) (tells_self _))

clear_has : (e : ℕ) (r : Row) (n : ℕ) → has (clear e r) n ≡ (has r n && not (eqb n e))
clear_has e r n = same_test (has_clear e r n) (and_tells (tells_self _) (not_tells (eqb_tells n e)))

single_has : (x n : ℕ) → has (single x) n ≡ eqb n x
single_has x n = same_test (has_single x n) (eqb_tells n x)

-- r is the row that a clause makes for entry e of kind k and first field a, where x and y are the rows of its operands
abbrev pub Made : ((ℕ → Row) → ℕ → Shape → Row) → ℕ → ℕ → ℕ → Names → Names → Names → Type 0
Made row k a e x y r =
    (f : ℕ → Row) (b : ℕ) → operands_out_lem e (plain_shape k a b) ≡ false → (a < e → Marks x (has (f a))) → (b < e → Marks y (has (f b)))
    → Marks r (has (row f e (plain_shape k a b)))

both_below : (e a b : ℕ) → (leb e a || leb e b) ≡ false → (a < e) × (b < e)
both_below e a b h = go (leb e a) (leb e b) refl refl h
  where
    go : (p q : Bool) → leb e a ≡ p → leb e b ≡ q → (p || q) ≡ false → (a < e) × (b < e)
    go false false s t h = (leb-false e a s, leb-false e b t)
    go false true s t h = absurd (true≢false h)
    go true q s t h = absurd (true≢false h)

-- what the two clauses share: no names at a leaf, the operands' together, and a name's fixpoint
pub record Joins (row : (ℕ → Row) → ℕ → Shape → Row) : Type 0 where
  pub at_leaf : (f : ℕ → Row) (e : ℕ) (l : Leaf) → row f e (leaf l) ≡ []
  pub at_two : (f : ℕ → Row) (e : ℕ) (o : Two) (a b : ℕ) → row f e (two o a b) ≡ union (f a) (f b)
  pub at_name : (f : ℕ → Row) (e x : ℕ) → row f e (name x) ≡ single x

pub free_joins : Joins free_row
unfolding free_row
free_joins = record { at_leaf = λ f e l. refl; at_two = λ f e o a b. refl; at_name = λ f e x. refl }

pub open_joins : Joins open_row
unfolding open_row
open_joins = record { at_leaf = λ f e l. refl; at_two = λ f e o a b. refl; at_name = λ f e x. refl }

module _ (row : (ℕ → Row) → ℕ → Shape → Row) (j : Joins row) (k a e : ℕ) (x y r : Names) where
  pub made_leaf : (k < Kind.OR) ⊎ (Kind.NAME < k) → Marks r (λ n. false) → Made row k a e x y r
  unfolding has
  made_leaf l q f b o g h n i =
      let (w, z) = leaf_kind k a b l in
      rw (z, j.at_leaf f e w) (q n i)

  pub made_two : Kind.OR ≤ k → k ≤ Kind.AND → Marks r (λ n. holds x n || holds y n) → Made row k a e x y r
  unfolding operands_out_lem
  made_two l m q f b o g h n i =
      let (w, z) = two_kind k a b l m in
      let (c, d) = both_below e a b (rw z at o) in
      rw (z, j.at_two f e w a b, union_has (f a) (f b) n) (q n i ∙ rw (g c n i, h d n i) refl)

  pub made_name : k ≡ Kind.NAME → Marks r (λ n. eqb n a) → Made row k a e x y r
  made_name l q f b o g h n i = rw (name_kind k a b l, j.at_name f e a, single_has a n) (q n i)

module _ (k a e : ℕ) (x y : Names) where
  -- a box or diamond keeps free names, and none is open
  pub free_step : Kind.DIAMOND ≤ k → k ≤ Kind.BOX → Made free_row k a e x y x
  unfolding free_row operands_out_lem
  free_step l m f b o g h n i = let (w, z) = step_kind k a b l m in rw z (g (leb-false e a (rw z at o)) n i)

  pub open_step : Kind.DIAMOND ≤ k → k ≤ Kind.BOX → (r : Names) → Marks r (λ n. false) → Made open_row k a e x y r
  unfolding open_row has
  open_step l m r q f b o g h n i = let (w, z) = step_kind k a b l m in rw z (q n i)

  -- a fixpoint binds its own name, and guards none
  pub free_fix : Kind.MU ≤ k → k ≤ Kind.NU → (own r : Names) → Marks own (λ n. eqb n e) → Marks r (λ n. holds x n && not (holds own n)) → Made free_row k a e x y r
  unfolding free_row operands_out_lem
  free_fix l m own r p q f b o g h n i =
      let (w, z) = fix_kind k a b l m in
      rw (z, clear_has e (f a) n) (q n i ∙ rw (g (leb-false e a (rw z at o)) n i, p n i) refl)

  pub open_fix : Kind.MU ≤ k → k ≤ Kind.NU → Made open_row k a e x y x
  unfolding open_row operands_out_lem
  open_fix l m f b o g h n i = let (w, z) = fix_kind k a b l m in rw z (g (leb-false e a (rw z at o)) n i)

-- the rows of the entries below e, wherever these stand
abbrev pub RowsBelow : (ℕ → Names) → (ℕ → Row) → ℕ → Type 0
RowsBelow rows f e = (d : ℕ) → d < e → Marks (rows d) (has (f d))

module _ (f : ℕ → Row) (rows : ℕ → Names) (e : ℕ) (below : RowsBelow rows f e) where
  -- i and j are the operands where these lie below
  pub row_made : (row : (ℕ → Row) → ℕ → Shape → Row) (k a b : ℕ) → f e ≡ row f e (plain_shape k a b) → operands_out_lem e (plain_shape k a b) ≡ false
      → (i j : ℕ) → (a < e → i ≡ a) → (b < e → j ≡ b) → (r : Names) → Made row k a e (rows i) (rows j) r → Marks r (has (f e))
  row_made row k a b clause placed i j p q r m = rw clause (m f b placed (λ h. rw (p h) (below a h)) (λ h. rw (q h) (below b h)))

  -- row e is written, and no other
  rows_more : (new : ℕ → Names) → ((d : ℕ) → (d ≡ e → ⊥) → new d ≡ rows d) → Marks (new e) (has (f e)) → RowsBelow new f (e + 1)
  rows_more new other m = below_more (λ d. Marks (new d) (has (f d))) e (λ d less. rw (other d (λ q. omega arith)) (below d less)) m

-- in a list of words
pub words_more : (f : ℕ → Row) (l : List ℕ) (e : ℕ) → RowsBelow (row_of l) f e → (r : Names) → 4 * e + 3 < length l → Marks r (has (f e))
    → RowsBelow (row_of (with_row l e r)) f (e + 1)
words_more f l e below r h m = rows_more f (row_of l) e below (row_of (with_row l e r)) (row_other l e r) (rw (row_same l e r h) m)
