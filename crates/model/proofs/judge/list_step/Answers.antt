-- each return is the law of ListSteps for the count and for what was told of the successors
use native.Mathlib.Omega.{arith}
use Rattle.model.specs.ListSteps.{list_cut, list_zero, finds_list}
use Rattle.std.specs.Prelude.{Ok}
use Rattle.model.proofs.judge.list_step.Goals as goal

pub returns-then-bytes-from : goal.returns-then-bytes-from
returns-then-bytes-from c = rw c.at.ensures (list_cut _ _ _ _ (omega arith) c.if-bytes-from.true)

pub returns-then-count-eq0 : goal.returns-then-count-eq0
returns-then-count-eq0 c = rw c.at-then-count-eq0.ensures (list_zero _ _ _ _ c.if-bytes-from.false c.if-count-eq0.true)

pub returns-then-successors_fit : goal.returns-then-successors_fit
returns-then-successors_fit c = finds_list _ _ _ _ c.if-bytes-from.false c.if-count-eq0.false (Ok _) (c.successors_fit.ensures c.if-successors_fit.true)

pub returns : goal.returns
returns c = finds_list _ _ _ _ c.if-bytes-from.false c.if-count-eq0.false c.successors_step.result c.successors_step.ensures
