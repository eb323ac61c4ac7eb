-- the test of one bit
use Rattle.bits.specs.WordSet.{in_word}
use Rattle.entry_sets.proofs.has.Goals as goal

pub returns : goal.returns
returns c = in_word c.args.set.now c.args.k
