-- nodes whose numbers can be moved, in plain numbers
use Rattle.std.specs.Prelude.{◌≡◌, refl, List, Bool, ℕ, ◌<◌, get_or, set}
use Rattle.std.proofs.Common.{◌∙◌, arith, get_or-set_other}
use Rattle.verdict.specs.Lists.{Each}
use Rattle.formula.specs.Nodes.{Node, Proof}
use Rattle.formula.specs.Fields.{has_first_lem, has_second_lem, has_back_lem}
use Rattle.joining.specs.Shift.{moved}

-- each field that names a node still fits two bytes, so much further on
pub record Moves (d : ℕ) (x : Node) : Type 0 where
  pub first : moved (has_first_lem x.rule) d x.first < 65536
  pub second : moved (has_second_lem x.rule) d x.second < 65536
  pub back : moved (has_back_lem x.rule) d x.back < 65536

abbrev pub Movable : ℕ → Proof → Type 0
Movable d p = Each (Moves d) p

-- the same of the four links of a node
pub record LinksMove (r d : ℕ) (l : List ℕ) : Type 0 where
  pub first : moved (has_first_lem r) d (get_or l 1 0) < 65536
  pub second : moved (has_second_lem r) d (get_or l 2 0) < 65536
  pub back : moved (has_back_lem r) d (get_or l 3 0) < 65536

abbrev pub moved_links : ℕ → ℕ → List ℕ → List ℕ
moved_links r d l = set (set (set l 1 (moved (has_first_lem r) d (get_or l 1 0))) 2 (moved (has_second_lem r) d (get_or l 2 0))) 3 (moved (has_back_lem r) d (get_or l 3 0))

-- the links that are not moved yet
pub second_kept : (l : List ℕ) (x : ℕ) → get_or (set l 1 x) 2 0 ≡ get_or l 2 0
second_kept l x = get_or-set_other l 1 2 x 0 (λ e. omega arith)

pub back_kept : (l : List ℕ) (x y : ℕ) → get_or (set (set l 1 x) 2 y) 3 0 ≡ get_or l 3 0
back_kept l x y = get_or-set_other (set l 1 x) 2 3 y 0 (λ e. omega arith) ∙ get_or-set_other l 1 3 x 0 (λ e. omega arith)

-- one link after the other, each by its own field
pub links_moved : (r d : ℕ) (l : List ℕ) {f g h : Bool} {x y z : ℕ} → f ≡ has_first_lem r → g ≡ has_second_lem r → h ≡ has_back_lem r
    → x ≡ moved f d (get_or l 1 0) → y ≡ moved g d (get_or (set l 1 x) 2 0) → z ≡ moved h d (get_or (set (set l 1 x) 2 y) 3 0)
    → set (set (set l 1 x) 2 y) 3 z ≡ moved_links r d l
links_moved r d l a b c e i j = rw (j, back_kept, i, second_kept, e, a, b, c) refl
