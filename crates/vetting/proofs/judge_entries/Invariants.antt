-- The entries before i fit, and the rest is walked over from here.
use Prim.Native.Nat.{◌+◌, ◌*◌, ◌≤◌}
use Rattle.vetting.specs.WalkLaws.{EntriesLeft}
use Rattle.vetting.proofs.judge_entries.Given as goal

abbrev pub invariant-loop-i : goal.invariant-loop-i
invariant-loop-i l = (l.at ≤ 6 + 6 * l.i) × EntriesLeft l.kinds l.a l.b l.count l.i l.at
