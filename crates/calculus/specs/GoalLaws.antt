-- 36: goals and their roots by number
use Rattle.std.proofs.Math.Path.{refl}
use Rattle.std.proofs.Common.{subst, arith}
use mathlib.Core.List.{List, [], ◌∷◌, Memᴰ}
use Prim.Native.Nat.{ℕ, zero, suc, ◌<◌}
use Rattle.std.proofs.Math.ListN.{length, get_or}
use Rattle.verdict.specs.Sets.{Same}
use Rattle.formula.specs.Claim.{Claim, Derivation}
use Rattle.calculus.specs.Sequents.{sequent}
use Rattle.calculus.specs.Goals.{goal, root, focused, ClaimedAt, Claimed}
use Rattle.calculus.specs.Given.{Given}

pub at_in : {A : Type 0} (d : A) (l : List A) (i : ℕ) → i < length l → Memᴰ (get_or l i d) l
at_in d [] i h = absurd (omega arith)
at_in d (x ∷ l) zero h = Memᴰ.head refl
at_in d (x ∷ l) (suc i) h = Memᴰ.tail (at_in d l i (omega arith))

module _ (c : Claim) (d : Derivation) (G : Given c d) where
  -- every root is a node
  pub root_real : (i : ℕ) → i < length c.goals → root d i < length d.nodes
  root_real i h = G.rooted.inside _ (at_in 0 d.roots i (omega (arith, G.rooted.as_many)))

  -- each root is its goal's just when each node is that is a root
  pub claimed_nodes : Claimed c d → (v : ℕ) → ClaimedAt c d v
  claimed_nodes C v i h e = subst (λ (w : ℕ). Same (sequent c.entries d.nodes w) (focused c.entries (goal c i))) e (C i h)

  pub claimed_roots : ((v : ℕ) → v < length d.nodes → ClaimedAt c d v) → Claimed c d
  claimed_roots f i h = f (root d i) (root_real i h) i h refl
