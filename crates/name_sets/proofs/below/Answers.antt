use Rattle.name_sets.specs.Ordered.{below_marks}
use Rattle.name_sets.proofs.below.Goals as goal

pub returns : goal.returns
returns c = below_marks _ _ c.low_word.ensures c.low_word-2.ensures c.low_word-3.ensures c.low_word-4.ensures
