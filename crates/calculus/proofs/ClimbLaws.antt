-- the walk up the parents finds the proper ancestors, and no others
use Rattle.std.specs.Prelude.{length}
use Rattle.std.proofs.Common.{arith}
use Prim.Native.Nat.{ℕ, ◌<◌}
use Rattle.formula.specs.Nodes.{Proof}
use Rattle.calculus.specs.Tree.{Forest}
use Rattle.calculus.specs.Paths.{Path, stop, down, Ancestor, on_start, ancestor_below}
use Rattle.calculus.specs.View.{plain}
use Rattle.calculus.specs.Judge.{climb, ancestor}
use Rattle.verdict.specs.Tells.{Tells, tells_as, and_tells, ltb_tells}
use Rattle.verdict.specs.SetTells.{member_tells}
use Rattle.calculus.specs.ClimbLaws.{ancestor_path, climb_on, climb_path}

module _ (p : Proof) where
  module _ (T : Forest p) where
    path_ancestor : {c w : ℕ} → c < w → Path p c w → Ancestor p c w
    path_ancestor h stop = absurd (omega arith)
    path_ancestor h (down {v = v} π e) = record { parent = v; above = π; edge = e }

    pub ancestor_tells : (c w : ℕ) → w < length p → Tells (ancestor (plain p) c w) (Ancestor p c w)
    unfolding ancestor
    ancestor_tells c w h = tells_as
        (λ (k, m). path_ancestor k (climb_path p T w c w h m))
        (λ a. (ancestor_below T a, (climb_on p T w (ancestor_path p T a) (omega arith)).from c (on_start (ancestor_path p T a))))
        (and_tells (ltb_tells c w) (member_tells (climb (plain p) w c w) c))
