-- 35 first, and then the rest over a tree
use mathlib.Core.Path.{refl, sym, ◌∙◌}
use borrow.Author.Rules.{rules}
use Rattle.tree.specs.TreeStages.{filled_parented}
use Rattle.rules.specs.JudgeStages.{filled_tree, filled_judged}
use Rattle.rules.proofs.JudgeStages.{tree_bad, tree_good}
use Rattle.verdict.proofs.PassedOn.{passed_on}
use Rattle.rules.proofs.judge.judge_in.Goals as goal

pub fill_owners-requires : goal.fill_owners-requires
fill_owners-requires c =
    let G = c.requires.1 in
    let F = c.requires.2 in (
      F.room,
      record { few = G.roots.few; long = G.roots.long; inside = G.roots.inside },
      F.ownerless,
    )

pub invariant_of-owners : goal.invariant_of-owners
invariant_of-owners c =
    record { upward = record { few = c.requires.0.columns.few; room = search rules; parented = filled_parented _ _ _ _ _ c.in_ok-fill_owners.ensures } }

pub judge_tree-requires : goal.judge_tree-requires
judge_tree-requires c =
    let L = c.requires.0 in
    let filled = c.in_ok-fill_owners.ensures in
    record { judged = (filled_judged filled L (search rules), c.requires.1); owned = ((refl, filled.owned refl), c.requires.2.once) }

pub returns : goal.returns
returns c f = c.judge_tree.ensures f ∙ sym (tree_good _ _ (filled_tree c.in_ok-fill_owners.ensures _ _))

pub returns-in_err-fill_owners : goal.returns-in_err-fill_owners
returns-in_err-fill_owners c f = rw (passed_on _ c.from_residual.ensures.1) (sym (tree_bad _ _ (sym (c.in_err-fill_owners.ensures.answers _ _))))
