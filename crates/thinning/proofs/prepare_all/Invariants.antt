-- The invariant: the columns of the entries passed.
use Rattle.thinning.specs.Tabled.{PreparedIn}
use Rattle.thinning.proofs.prepare_all.Given as goal

abbrev pub invariant-loop-e : goal.invariant-loop-e
invariant-loop-e l = PreparedIn l.table l.free l.totals l.bound l.firsts l.seconds l.e
