use mathlib.Core.Path.{sym, ◌∙◌}
use Prim.Native.Nat.{◌≤◌, ◌<◌, ◌-◌}
use native.Mathlib.Omega.{arith}
use lib.ListN.{get_or}
use Rattle.spans.specs.CountLaws.{none_counted, root_fits, count_root, child_fits, count_child, count_done}
use Rattle.spans.proofs.count_nodes.Goals as goal
use Rattle.spans.proofs.count_nodes.Goals.{Else-owner-eq0}

-- a node with an owner has a parent of a smaller number
below : (c : Else-owner-eq0)
    → (0 < get_or c.args.owners.now.table.now (c.loop-v.v - 1) 0)
    × (get_or c.args.owners.now.table.now (c.loop-v.v - 1) 0 ≤ c.loop-v.v - 1)
below c =
    let turn = c.loop-v in
    (omega (arith, c.if-owner-eq0.false, c.wide-owner.ensures), c.args.owners.now.upward.parented _ (omega (arith, turn.auto.v, c.loop-v-test.true)))

pub loop-v-init : goal.loop-v-init
loop-v-init c = none_counted _ c.requires

pub overflow_add-taken : goal.overflow_add-taken
overflow_add-taken c =
    let turn = c.loop-v in
    omega (arith, root_fits _ _ _ c.args.owners.now.upward.parented c.loop-v-test.true turn.auto.v _ _ _ turn.invariant (sym c.wide-owner.ensures ∙ c.if-owner-eq0.true))

pub loop-v-preserved-then-owner-eq0 : goal.loop-v-preserved-then-owner-eq0
loop-v-preserved-then-owner-eq0 c =
    let turn = c.loop-v in
    count_root _ _ _ c.args.owners.now.upward.parented c.loop-v-test.true turn.auto.v _ _ _ turn.invariant (sym c.wide-owner.ensures ∙ c.if-owner-eq0.true)

pub overflow_add-sizes : goal.overflow_add-sizes
overflow_add-sizes c =
    let turn = c.loop-v in
    let fits = child_fits _ _ _ c.args.owners.now.upward.parented c.loop-v-test.true turn.auto.v _ _ _ turn.invariant (below (goal.at.overflow_add-sizes c).Else-owner-eq0).0 in
    rw c.wide-owner.ensures (omega (arith, fits))

pub loop-v-preserved : goal.loop-v-preserved
loop-v-preserved c =
    let turn = c.loop-v in
    rw c.wide-owner.ensures (count_child _ _ _ c.args.owners.now.upward.parented c.loop-v-test.true turn.auto.v _ _ _ turn.invariant (below (goal.at.loop-v-preserved c).Else-owner-eq0).0)

pub returns : goal.returns
returns c = count_done _ _ c.loop-v-test.false c.loop-v.invariant
