-- `opposite` meets its contract, test by test.
use mathlib.Core.Path.{◌≡◌, refl, ◌∙◌}
use mathlib.Core.Bool.{Bool, true, false, ◌&&◌}
use mathlib.Core.List.{List}
use Prim.Native.Nat.{ℕ, ◌<◌}
use lib.ListN.{get_or}
use lib.Dec.{eqb}
use borrow.Author.Tests.{eq-eqb, ne_eqb}
use Rattle.formula.specs.Kind
use Rattle.formula.specs.Plain.{table_of, table_of_kind, table_of_a}
use Rattle.formula.specs.Codes.{entry_of_lem}
use Rattle.calculus.specs.Judge.{opposite as Opposite}
use Rattle.axioms.proofs.opposite.Goals as goal
use Rattle.axioms.proofs.opposite.Goals.{Joined-kinds-x-eq-LETTER, then-kinds-x-eq-LETTER, else-kinds-x-eq-LETTER}

-- the judge's test, in the columns
told : (ks xs ys : List ℕ) (n c d : ℕ) → entry_of_lem c < n → entry_of_lem d < n → (x y : ℕ) → x ≡ entry_of_lem c → y ≡ entry_of_lem d
    → Opposite (table_of ks xs ys n) c d ≡ ((eqb (get_or ks x 0) Kind.LETTER && eqb (get_or ks y 0) Kind.NEGATED) && eqb (get_or xs x 0) (get_or xs y 0))
unfolding Opposite
told ks xs ys n c d p q x y e f =
    rw (e, f, table_of_kind ks xs ys n (entry_of_lem c) p, table_of_kind ks xs ys n (entry_of_lem d) q, table_of_a ks xs ys n (entry_of_lem c) p, table_of_a ks xs ys n (entry_of_lem d) q)
    (nested (eqb (get_or ks (entry_of_lem c) 0) Kind.LETTER) (eqb (get_or ks (entry_of_lem d) 0) Kind.NEGATED) (eqb (get_or xs (entry_of_lem c) 0) (get_or xs (entry_of_lem d) 0)))
  where
    nested : (x y z : Bool) → (x && (y && z)) ≡ ((x && y) && z)
    nested true y z = refl
    nested false y z = refl

-- what the first two tests find
kinds : (c : Joined-kinds-x-eq-LETTER) → let a = c.args in
    c.if-kinds-x-eq-LETTER.value ≡ (eqb (get_or a.table.now.kinds.now c.entry_of-x.result 0) Kind.LETTER && eqb (get_or a.table.now.kinds.now c.entry_of-y.result 0) Kind.NEGATED)
kinds c = elim c.if-kinds-x-eq-LETTER.branch [
  | then-kinds-x-eq-LETTER w ↦ rw (eq-eqb _ _ w.if-kinds-x-eq-LETTER.true) w.value-is
  | else-kinds-x-eq-LETTER w ↦ rw (ne_eqb _ _ w.if-kinds-x-eq-LETTER.false) (w.value-is ∙ ne_eqb _ _ w.if-kinds-x-eq-LETTER.false)
]

pub returns-then-kinds-y-eq-NEGATED : goal.returns-then-kinds-y-eq-NEGATED
returns-then-kinds-y-eq-NEGATED c ys n p q =
    let a = c.args in
    let found = kinds (goal.at.returns-then-kinds-y-eq-NEGATED c).Joined-kinds-x-eq-LETTER in
    rw (told a.table.now.kinds.now a.table.now.a.now ys n a.plain a.negated p q _ _ c.entry_of-x.ensures c.entry_of-y.ensures, ← found, c.if-kinds-y-eq-NEGATED.true) refl

pub returns-else-kinds-y-eq-NEGATED : goal.returns-else-kinds-y-eq-NEGATED
returns-else-kinds-y-eq-NEGATED c ys n p q =
    let a = c.args in
    let found = kinds (goal.at.returns-else-kinds-y-eq-NEGATED c).Joined-kinds-x-eq-LETTER in
    rw (told a.table.now.kinds.now a.table.now.a.now ys n a.plain a.negated p q _ _ c.entry_of-x.ensures c.entry_of-y.ensures, ← found, c.if-kinds-y-eq-NEGATED.false) refl
