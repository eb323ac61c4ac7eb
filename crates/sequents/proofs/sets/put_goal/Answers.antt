use Prim.Native.Nat.{◌-◌}
use native.Mathlib.Omega.{arith}
use borrow.Author.Rules.{rules}
use Rattle.sequents.specs.Part.{part_member}
use Rattle.sequents.specs.CodeSet.{each_before, each_end}
use Rattle.sequents.specs.Keys.{in_focus}
use Rattle.sequents.proofs.sets.put_goal.Goals as goal

pub loop-i-init : goal.loop-i-init
loop-i-init c = (search rules, each_end (in_focus c.args.canon.now) c.args.members.now c.args.to c.requires.2)

pub key-requires : goal.key-requires
key-requires c =
    let here = part_member c.args.members.now c.args.from c.args.to (c.loop-i.i - 1) (omega arith) (omega arith) c.requires.1.long in
    (c.requires.0, rw c.wide.ensures (c.requires.1.inside _ here), search rules)

pub loop-i-preserved : goal.loop-i-preserved
loop-i-preserved c = (
  search rules,
  each_before (in_focus c.args.canon.now) c.args.members.now c.loop-i.i c.args.to _ (omega arith) (omega arith) c.requires.1.long
      (rw c.wide.ensures at c.key.ensures.1) (c.put.ensures _ c.loop-i.invariant.1),
)
