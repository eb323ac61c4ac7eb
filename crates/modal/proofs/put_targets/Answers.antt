use mathlib.Core.Path.{◌≡◌}
use Prim.Native.Nat.{◌-◌}
use native.Mathlib.Omega.{arith}
use lib.ListN.{length}
use Rattle.std.proofs.Common.{le_refl}
use Rattle.formula.specs.Plain.{table_of}
use Rattle.sequents.specs.Part.{part_whole, at_place}
use Rattle.sequents.specs.CodeSet.{each_before, each_end}
use Rattle.modal.specs.BoxLaws.{stepped_key}
use Rattle.modal.proofs.put_targets.Goals as goal

pub loop-i-init : goal.loop-i-init
loop-i-init c ys n M = each_end _ c.args.codes.now (length c.args.codes.now) c.requires.2

pub operand_key-requires : goal.operand_key-requires
operand_key-requires c =
    let p = c.requires in
    let one = at_place c.args.codes.now (c.loop-i.i - 1) 0 (omega arith) in
    (p.0 _ one, p.1 _ one, omega arith)

pub loop-i-preserved : goal.loop-i-preserved
loop-i-preserved c ys n M =
    let a = c.args in
    let m = M _ (at_place a.codes.now (c.loop-i.i - 1) 0 (omega arith)) in
    each_before (stepped_key a.table.now.canon.now (table_of a.table.now.columns.kinds.now a.table.now.columns.a.now ys n)) a.codes.now c.loop-i.i (length a.codes.now) _ (omega arith) (omega arith) (le_refl _)
    (rw m.is (c.operand_key.ensures.1 ys n m.inside))
    (c.put.ensures _ (c.loop-i.invariant ys n M))

pub returns : goal.returns
returns c ys n M = let z : c.loop-i.i ≡ 0 = omega arith in rw (z, part_whole c.args.codes.now) at c.loop-i.invariant ys n M
