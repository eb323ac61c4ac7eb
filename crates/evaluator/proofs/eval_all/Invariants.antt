-- the entries from e on have been evaluated
use Rattle.evaluator.specs.Swept.{Swept}
use Rattle.evaluator.proofs.eval_all.Given as goal

abbrev pub invariant-loop-e : goal.invariant-loop-e
invariant-loop-e l = Swept l.prepared.claim.kinds.now l.prepared.claim.a.now l.prepared.claim.b.now l.model.masks.now l.model.rows.now l.model.size l.e l.words l.done
