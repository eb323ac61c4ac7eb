use Rattle.std.proofs.Common.{arith}
use Rattle.joined_proofs.specs.Focusing.{none_focused, more_focused, member_small}
use Rattle.joined_proofs.proofs.put_focused.Goals as goal

pub loop-i-init : goal.loop-i-init
loop-i-init c = none_focused c.args.members.now c.args.codes.now

pub code_of-requires : goal.code_of-requires
code_of-requires c = (member_small c.requires.0 c.loop-i-test.true, omega arith)

pub loop-i-preserved : goal.loop-i-preserved
loop-i-preserved c =
    let turn = c.loop-i in
    let more =
    more_focused c.args.members.now c.args.codes.now turn.i
    (omega (arith, c.requires.0.few, c.requires.0.long)) (omega (arith, c.requires.0.few, c.requires.1)) in
    rw (turn.invariant, c.code_of.ensures.1) more
