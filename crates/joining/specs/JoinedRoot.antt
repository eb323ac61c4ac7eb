-- the members of the new root are the joined claim's, all in focus
use Rattle.std.specs.Prelude.{refl, List, ℕ, zero, suc}
use Rattle.std.proofs.Common.{ap, ◌∙◌, arith}
use Rattle.verdict.specs.Sets.{Same, elements, image}
use Rattle.verdict.specs.SetTells.{lists_each}
use Rattle.formula.specs.Table.{Table}
use Rattle.formula.specs.Codes.{code}
use Rattle.formula.specs.Nodes.{Proof}
use Rattle.calculus.specs.Sequents.{read, sequent}
use Rattle.calculus.specs.Goals.{focused, Claimed}
use Rattle.joining.specs.Goals.{joined_goal}
use Rattle.joining.specs.Joined.{one_goal, one_tree, in_focus, joined_proof}

module _ (t : Table) where
  -- the same of the codes that a root lists
  listed_claim : (l : List ℕ) → Same (image (read t) (elements (in_focus l))) (focused t l)
  listed_claim l =
      let L = lists_each (λ e. code e 1) l in
      record {
        into = λ m (c, k, q). let (e, n, i) = L.into c k in (e, n, q ∙ ap (read t) i);
        from = λ m (e, n, q). (code e 1, L.from (code e 1) (e, n, refl), q);
      }

  module _ (e : ℕ) (l r : List ℕ) (p q : Proof) where
    abbrev both : Proof
    both = joined_proof t e l r p q

    pub root_claimed : Same (sequent t both 0) (focused t (joined_goal t e l r))
    root_claimed = listed_claim (joined_goal t e l r)

    -- 36
    pub joined_claimed : Claimed (one_goal t (joined_goal t e l r)) (one_tree both)
    joined_claimed zero h = root_claimed
    joined_claimed (suc i) h = absurd (omega arith)
