-- No place is marked where there is no name; the first ones where the operand has all names of the entry; else what `thin` has marked.
use mathlib.Core.Path.{sym, ◌∙◌}
use Rattle.thinning.specs.AllMarked.{none_among, all_among}
use Rattle.thinning.specs.Columns.{row_put}
use Rattle.thinning.proofs.Owner.put_thinned.Goals as goal

pub returns-then-size-eq0 : goal.returns-then-size-eq0
returns-then-size-eq0 c =
    row_put _ _ _ _ _ c.requires c.put_row.ensures
    (λ _. none_among _ _ _ _ (sym c.args.self.now.sized ∙ c.if-size-eq0.true) c.none.ensures)

pub returns-then-has_all : goal.returns-then-has_all
returns-then-has_all c =
    let all = c.has_all.ensures.says c.if-has_all.true in
    row_put _ _ _ _ _ c.requires c.put_row-then-has_all.ensures
    (λ h. rw (c.row-inner.ensures, c.near.ensures.1 h) at (all_among _ _ _ _ _ all c.args.self.now.sized c.below.ensures))
