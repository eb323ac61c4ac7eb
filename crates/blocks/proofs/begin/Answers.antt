use Rattle.blocks.specs.Turn.{begin_nearer}
use Rattle.blocks.proofs.begin.Goals as goal

pub loop-e-smaller : goal.loop-e-smaller
loop-e-smaller c =
    let args2 = c.args in
    let loop-test2 = c.loop-e-test.true in
    begin_nearer args2.block.now args2.start args2.words.now _ _ _ (loop-test2) (c.loop-e.invariant.1.found (loop-test2)) c.remove.ensures
