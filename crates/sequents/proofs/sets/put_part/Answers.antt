use mathlib.Core.Path.{◌≡◌}
use Prim.Native.Nat.{◌-◌}
use native.Mathlib.Omega.{arith}
use lib.ListN.{length}
use Rattle.std.proofs.Common.{le_refl}
use Rattle.sequents.specs.CodeSet.{each_before, each_end}
use Rattle.sequents.specs.Keys.{key_of_lem}
use Rattle.sequents.specs.Part.{part_whole, fit_at}
use Rattle.sequents.proofs.sets.put_part.Goals as goal

pub loop-i-init : goal.loop-i-init
loop-i-init c = each_end (key_of_lem c.args.table.now.canon.now) c.args.codes.now (length c.args.codes.now) c.requires.1

pub key_of-requires : goal.key_of-requires
key_of-requires c = fit_at c.requires.0 (c.loop-i.i - 1) (omega arith)

pub loop-i-preserved : goal.loop-i-preserved
loop-i-preserved c =
    each_before (key_of_lem c.args.table.now.canon.now) c.args.codes.now c.loop-i.i (length c.args.codes.now) _ (omega arith) (omega arith) (le_refl _) c.key_of.ensures.1
    (c.put.ensures _ c.loop-i.invariant)

pub returns : goal.returns
returns c = let z : c.loop-i.i ≡ 0 = omega arith in rw (z, part_whole c.args.codes.now) at c.loop-i.invariant
