-- The invariant: the names below the one that is next are passed.
use Prim.Native.Nat.{◌-◌}
use Rattle.thinning.specs.Marked.{Thinning}
use Rattle.thinning.proofs.thin.Given as goal

abbrev pub invariant-loop-name : goal.invariant-loop-name
invariant-loop-name l = Thinning l.initial.rest l.inner l.count l.s l.rest l.name

abbrev pub decreases-loop-name : goal.decreases-loop-name
decreases-loop-name l = 256 - l.name
