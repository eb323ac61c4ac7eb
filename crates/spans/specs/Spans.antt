-- the numbers by which ancestors are told: a walk of the trees, each from its root down, enters each node and leaves it again once all below
-- it is done. A node's span is the numbers from its entry up to its exit
use Rattle.std.specs.Prelude.{◌≡◌, Bool, ◌&&◌, List, [], ◌∷◌, ℕ, zero, suc, ◌+◌, ◌-◌, ◌<◌, ◌≤◌, ltb, length, get_or}
use Rattle.tree.specs.Owners.{Parented}

-- the parent of w in a table of owners, for a node that has one
abbrev pub up : List ℕ → ℕ → ℕ
up owners w = get_or owners w 0 - 1

-- what a table has at the parent of w, 0 for a root: an owner's number is one more than its node's
abbrev pub at_parent_lem : List ℕ → List ℕ → ℕ → ℕ
at_parent_lem owners table w = get_or (0 ∷ table) (get_or owners w 0) 0

-- parents of up to 1,024 nodes, each of a smaller number
pub record Upward (owners : List ℕ) (n : ℕ) : Type 0 where
  pub few : n ≤ 1024
  pub room : n ≤ length owners
  pub parented : Parented owners n

-- a child's span lies in its parent's, after the parent's own number; the spans of two children of one node lie apart, and of two roots
pub record Spans (owners : List ℕ) (n : ℕ) (entries exits : List ℕ) : Type 0 where
  pub some : (w : ℕ) → w < n → get_or entries w 0 < get_or exits w 0
  pub after : (w : ℕ) → w < n → 0 < get_or owners w 0 → get_or entries (up owners w) 0 < get_or entries w 0
  pub within : (w : ℕ) → w < n → 0 < get_or owners w 0 → get_or exits w 0 ≤ get_or exits (up owners w) 0
  pub apart : (x y : ℕ) → x < y → y < n → get_or owners x 0 ≡ get_or owners y 0 → get_or exits y 0 ≤ get_or entries x 0

-- v is entered after c, and before c is left
abbrev pub spanned : List ℕ → List ℕ → ℕ → ℕ → Bool
spanned entries exits c v = ltb (get_or entries c 0) (get_or entries v 0) && ltb (get_or entries v 0) (get_or exits c 0)

-- the first v of a table's numbers together
unfoldable pub total : List ℕ → ℕ → ℕ
total [] v = 0
total (x ∷ l) zero = 0
total (x ∷ l) (suc v) = x + total l v

-- tables for n nodes, of which each is counted for itself; the first may have any content
pub record CountedOnce (n : ℕ) (offsets sizes : List ℕ) : Type 0 where
  pub room : (n ≤ length offsets) × (n ≤ length sizes)
  pub ones : (w : ℕ) → w < n → get_or sizes w 0 ≡ 1

-- the nodes from v on are counted: how far the entry of each lies after its parent's, or a root's after 0, and by the number of an owner how
-- many are counted there: at w + 1 the nodes at and below w, at 0 those of whole trees
pub record Counted (owners : List ℕ) (n v : ℕ) (offsets sums : List ℕ) : Type 0 where
  pub room : (n ≤ length offsets) × (n < length sums)
  pub some : (w : ℕ) → w < n → 0 < get_or sums (suc w) 0
  pub after : (w : ℕ) → v ≤ w → w < n → 0 < get_or owners w 0 → 0 < get_or offsets w 0
  pub within : (w : ℕ) → v ≤ w → w < n → get_or offsets w 0 + get_or sums (suc w) 0 ≤ get_or sums (get_or owners w 0) 0
  pub apart : (x y : ℕ) → v ≤ x → x < y → y < n → get_or owners x 0 ≡ get_or owners y 0 → get_or offsets y 0 + get_or sums (suc y) 0 ≤ get_or offsets x 0
  pub all : total sums (suc v) ≡ n

-- the nodes below v have their numbers, the others are only counted
pub record Numbered (owners : List ℕ) (n v : ℕ) (offsets sizes entries exits : List ℕ) : Type 0 where
  pub room : (n ≤ length entries) × (n ≤ length exits)
  pub entered : (w : ℕ) → w < v → get_or entries w 0 ≡ at_parent_lem owners entries w + get_or offsets w 0
  pub left : (w : ℕ) → w < v → get_or exits w 0 ≡ get_or entries w 0 + get_or sizes w 0
  pub inside : (w : ℕ) → w < v → get_or exits w 0 ≤ n
  pub rest : (w : ℕ) → v ≤ w → (get_or entries w 0 ≡ get_or offsets w 0) × (get_or exits w 0 ≡ get_or sizes w 0)
