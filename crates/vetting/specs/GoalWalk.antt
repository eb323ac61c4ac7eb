-- the walk over the goals by their sizes, by what is left of it; and the sum of the sizes, by what is left to add
use Rattle.std.specs.Prelude.{◌≡◌, List, [], ◌∷◌, length, get_or, take, drop, sum, map}
use Rattle.std.proofs.Math.Path.{refl}
use Rattle.std.proofs.Common.{ap, ◌∙◌}
use Rattle.std.proofs.lemmas.List.Sums.{sum_by-cons}
use Prim.Native.Nat.{ℕ, suc, ◌+◌, ◌*◌, ◌<◌, ◌≤◌}
use native.Mathlib.Omega.{arith}
use Rattle.std.proofs.Math.Seq.{drop-cons, drop-drop, drop-length}
use Rattle.formula.specs.Table.{Table}
use Rattle.writing.specs.Goals.{total}
use Rattle.writing.specs.Ends.{End, next, stop, go_on}
use Rattle.writing.specs.GoalEnds.{listed_end, lists_end}

-- one more size, and none left
module _ (gs : List ℕ) (i : ℕ) where
  pub total_more : i < length gs → total (drop i gs) ≡ get_or gs i 0 + total (drop (i + 1) gs)
  unfolding total
  total_more b = let p : i + 1 ≡ suc i = omega arith in rw (p, drop-cons gs i 0 b) refl

  pub total_none : i ≡ length gs → total (drop i gs) ≡ 0
  unfolding total
  total_none b = rw (b, drop-length gs) refl

-- the sum of the sizes, each taken as it is
pub total_sum : (gs : List ℕ) → sum (map (λ x. x) gs) ≡ total gs
unfolding total
total_sum [] = refl
total_sum (k ∷ gs) = sum_by-cons (λ x. x) k (map (λ x. x) gs) ∙ ap (λ (n : ℕ). k + n) (total_sum gs)

-- one size is the whole sum, and one goal the whole walk
pub total-one : (gs : List ℕ) → length gs ≡ 1 → total gs ≡ get_or gs 0 0
unfolding total
total-one [] h = refl
total-one (k ∷ []) h = omega arith
total-one (k ∷ j ∷ gs) h = absurd (omega arith)

pub lists_one : (t : Table) (gs ms : List ℕ) (at : ℕ) → length gs ≡ 1 → lists_end t gs ms at ≡ listed_end t (get_or gs 0 0) (take (get_or gs 0 0) ms) at
unfolding lists_end
lists_one t [] ms at h = absurd (omega arith)
lists_one t (k ∷ []) ms at h = alone (listed_end t k (take k ms) at)
  where
    alone : (e : End) → go_on e (λ o. next o) ≡ e
    alone (next o) = refl
    alone (stop n q) = refl
lists_one t (k ∷ j ∷ gs) ms at h = absurd (omega arith)

-- the goals from i on are left, their members from a start on, at a place
pub record ListsLeft (t : Table) (gs ms : List ℕ) (from i start at : ℕ) : Type 0 where
  pub enough : start + total (drop i gs) ≤ length ms
  pub near : at ≤ from + 50 * i
  pub left : lists_end t gs ms from ≡ lists_end t (drop i gs) (drop start ms) at

pub lists_begin : (t : Table) (gs ms : List ℕ) (from : ℕ) → total gs ≤ length ms → ListsLeft t gs ms from 0 0 from
lists_begin t gs ms from h = record { enough = omega arith; near = omega arith; left = refl }

module _ {t : Table} {gs ms : List ℕ} {from i start at : ℕ} (h : ListsLeft t gs ms from i start at) where
  pub lists_end_lem : i ≡ length gs → lists_end t gs ms from ≡ next at
  unfolding lists_end
  lists_end_lem b = h.left ∙ rw (b, drop-length gs) refl

  module _ (b : i < length gs) (k : ℕ) (read : k ≡ get_or gs i 0) where
    pub lists_room : start + k ≤ length ms
    lists_room = omega (arith, h.enough, total_more gs i b)

    -- where goal i ends
    abbrev pub goal_ends : End
    goal_ends = listed_end t k (take k (drop start ms)) at

    pub lists_stop : {m q : ℕ} → goal_ends ≡ stop m q → lists_end t gs ms from ≡ stop m q
    unfolding lists_end
    lists_stop e = h.left ∙ rw (drop-cons gs i 0 b, ← read, e) refl

    pub lists_on : {o : ℕ} → goal_ends ≡ next o → o ≤ at + 50 → ListsLeft t gs ms from (i + 1) (start + k) o
    unfolding lists_end
    lists_on e n =
        let p : i + 1 ≡ suc i = omega arith in
        record {
          enough = omega (arith, h.enough, total_more gs i b);
          near = omega (arith, h.near);
          left = h.left ∙ rw (p, drop-cons gs i 0 b, ← read, e, drop-drop k start ms) refl;
        }
