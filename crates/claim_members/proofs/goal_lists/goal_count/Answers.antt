-- The count is read where the form has one, and else there is one goal.
use Rattle.claim_members.specs.ClaimGoals.{several_counted, one_known}
use Rattle.claim_members.proofs.goal_lists.goal_count.Goals as goal

pub returns-then-several : goal.returns-then-several
returns-then-several c = rw (several_counted _ _ c.if-several.true) c.count_at.ensures

pub returns : goal.returns
returns c = one_known _ _ c.if-several.false c.requires.within
