-- the parents decide, and if they pass, the orphans
use Rattle.verdict.proofs.PassedOn.{passed_on}
use Rattle.tree.specs.TreeStages.{tree_refused, tree_orphans}
use Rattle.tree.proofs.take_all.Goals as goal

pub returns : goal.returns
returns c roots taken = tree_orphans roots _ _ _ _ _ (c.in_ok-adopt_all.ensures roots taken) (c.find_orphan.ensures roots)

pub returns-in_err-adopt_all : goal.returns-in_err-adopt_all
returns-in_err-adopt_all c roots taken =
    rw (passed_on _ c.from_residual.ensures.1) (tree_refused roots _ _ _ _ _ _ (c.in_err-adopt_all.ensures roots taken))
