-- lists as Braun trees: an element is read and replaced in as many steps as its place has binary digits
use Rattle.std.specs.Prelude.{cond, ℕ, ◌-◌, ◌/◌, ◌%◌, eqb}
use mathlib.Core.List.{List, [], ◌∷◌}

-- place 0 is the root's, 2k + 1 is place k on the left, 2k + 2 on the right
pub data Index (A : Type 0) : Type 0 where
  tip : Index A
  bin : A → Index A → Index A → Index A

module _ {A : Type 0} where
  unfoldable pub cons : A → Index A → Index A
  cons x tip = bin x tip tip
  cons x (bin y l r) = bin x (cons y r) l

  unfoldable pub index : List A → Index A
  unfolding cons
  index [] = tip
  index (x ∷ l) = cons x (index l)

  -- what a let binds is computed only if it is read
  unfoldable pub at : A → Index A → ℕ → A
  at d tip i = d
  at d (bin x l r) i =
      let left = at d l ((i - 1) / 2) in
      let right = at d r ((i - 1) / 2) in
      let below = cond (eqb (i % 2) 1) left right in
      cond (eqb i 0) x below

  -- past the end nothing is replaced
  unfoldable pub put : Index A → ℕ → A → Index A
  put tip i y = tip
  put (bin x l r) i y =
      let left = bin x (put l ((i - 1) / 2) y) r in
      let right = bin x l (put r ((i - 1) / 2) y) in
      let below = cond (eqb (i % 2) 1) left right in
      cond (eqb i 0) (bin y l r) below
