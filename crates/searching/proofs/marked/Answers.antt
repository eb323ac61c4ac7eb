-- the test of one bit
use Rattle.bits.specs.WordSet.{in_word}
use Rattle.searching.proofs.marked.Goals as goal

pub returns : goal.returns
returns c = in_word c.args.marks.now c.args.x
