-- 36 is exact: the test of a node tells that it is its goal's, if it is a root
use Rattle.std.specs.Prelude.{◌≡◌}
use Rattle.std.proofs.Math.Path.{refl}
use Rattle.std.proofs.Common.{arith}
use mathlib.Core.List.{List, [], ◌∷◌}
use Prim.Native.Nat.{ℕ, zero, suc, ◌<◌}
use Rattle.std.proofs.Math.ListN.{length, get_or}
use Rattle.verdict.specs.Sets.{Same, elements}
use Rattle.verdict.specs.Tells.{Tells, tells_as, eqb_tells, and_tells, if_tells}
use Rattle.formula.specs.Codes.{Formula}
use Rattle.formula.specs.Claim.{Claim, Derivation}
use Rattle.calculus.specs.Sequents.{sequent}
use Rattle.calculus.specs.Goals.{focused, ClaimedAt}
use Rattle.calculus.specs.Given.{Given}
use Rattle.calculus.specs.View.{plain}
use Rattle.calculus.specs.Judge.{claimed}
use Rattle.calculus.proofs.GoalLaws.{states_tells}

module _ (c : Claim) (d : Derivation) (G : Given c d) where
  module _ (v : ℕ) (real : v < length d.nodes) where
    -- of as many roots as goals
    lists_tell : (goals : List (List ℕ)) (roots : List ℕ) → length roots ≡ length goals
        → ((i e : ℕ) → i < length goals → elements (get_or goals i []) e → Formula c.entries e)
        → Tells (claimed c.entries (plain d.nodes) goals roots v)
        ((i : ℕ) → i < length goals → get_or roots i 0 ≡ v → Same (sequent c.entries d.nodes v) (focused c.entries (get_or goals i [])))
    unfolding claimed
    lists_tell [] roots q f = record { says = λ h i k. absurd (omega arith); holds = λ _. refl }
    lists_tell (ms ∷ goals) [] q f = absurd (omega arith)
    lists_tell (ms ∷ goals) (r ∷ roots) q f = tells_as (λ (x, y). into x y) (λ x. (x 0 (omega arith), λ i h. x (suc i) (omega arith)))
        (and_tells (if_tells (eqb_tells r v) (states_tells c d G v real ms (λ e. f 0 e (omega arith)))) (lists_tell goals roots (omega arith) (λ i e h. f (suc i) e (omega arith))))
      where
        into : (r ≡ v → Same (sequent c.entries d.nodes v) (focused c.entries ms))
            → ((i : ℕ) → i < length goals → get_or roots i 0 ≡ v → Same (sequent c.entries d.nodes v) (focused c.entries (get_or goals i [])))
            → (i : ℕ) → i < length (ms ∷ goals) → get_or (r ∷ roots) i 0 ≡ v → Same (sequent c.entries d.nodes v) (focused c.entries (get_or (ms ∷ goals) i []))
        into x y zero h = x
        into x y (suc i) h = y i (omega arith)

    pub claimed_tells : Tells (claimed c.entries (plain d.nodes) c.goals d.roots v) (ClaimedAt c d v)
    claimed_tells = lists_tell c.goals d.roots G.rooted.as_many G.claimed
