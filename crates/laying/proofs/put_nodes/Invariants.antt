-- After v turns the nodes from v on are left, and their codes from the start on.
use Prim.Native.Nat.{◌*◌, ◌-◌, ◌≤◌}
use Rattle.laying.specs.Laying.{Left, nodes_left}
use Rattle.laying.proofs.put_nodes.Given as goal

abbrev pub invariant-loop-v : goal.invariant-loop-v
invariant-loop-v l =
    (l.start ≤ 24 * l.v)
    × Left (nodes_left l.rules l.links l.counts l.codes 0 l.nodes 0) l.from l.initial.out (nodes_left l.rules l.links l.counts l.codes l.v (l.nodes - l.v) l.start) l.at l.out
