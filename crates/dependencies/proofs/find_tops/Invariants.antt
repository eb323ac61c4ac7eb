-- the entries below e have their highest free names
use lib.ListN.{replicate}
use Rattle.dependencies.specs.Top.{top}
use Rattle.forming.specs.Claim.{table_from}
use Rattle.states.specs.Fill.{Filled}
use Rattle.dependencies.proofs.find_tops.Given as goal

abbrev pub invariant-loop-e : goal.invariant-loop-e
invariant-loop-e l = Filled (top (table_from l.claim.kinds.now l.claim.a.now l.claim.b.now)) (replicate 256 0) l.e l.tops
