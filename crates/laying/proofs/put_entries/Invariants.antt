-- After i turns the entries from the i-th on are left.
use Prim.Native.Nat.{◌-◌}
use Rattle.laying.specs.Laying.{Left, entries_left}
use Rattle.laying.proofs.put_entries.Given as goal

abbrev pub invariant-loop-i : goal.invariant-loop-i
invariant-loop-i l =
    Left (entries_left l.kinds l.a l.b 0 l.count) 6 l.initial.out (entries_left l.kinds l.a l.b l.i (l.count - l.i)) l.at l.out
