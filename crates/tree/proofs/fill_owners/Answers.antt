-- the roots are marked, so that no parent takes one; then the marks are cleared
use Rattle.tree.specs.Stamps.{none_taken}
use Rattle.tree.specs.TreeStages.{owners_filled}
use Rattle.tree.proofs.fill_owners.Goals as goal

pub returns : goal.returns
returns c =
    let given = c.requires in
    owners_filled _ _ _ given.1.long
    (c.take_all-found.ensures _ (none_taken _ _ _ given.0 given.2 given.1.long c.stamp.ensures))
    c.stamp-2.ensures
