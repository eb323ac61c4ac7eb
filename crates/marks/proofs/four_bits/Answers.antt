-- the mask has bit 0 of each quarter of a word
use Rattle.marks.specs.Lanes.{four_masked}
use Rattle.marks.proofs.four_bits.Goals as goal

pub returns : goal.returns
returns c = four_masked c.four.ensures _ c.requires.0
