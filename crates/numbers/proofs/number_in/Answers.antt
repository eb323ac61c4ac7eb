-- The least entry that has a number, found for each number and taken for each entry.
use Rattle.numbers.specs.Ended.{numbered_each}
use Rattle.numbers.proofs.number_in.Goals as goal

pub returns : goal.returns
returns c = numbered_each _ _ c.requires.0.wf c.fill_numbers.ensures c.find_firsts.ensures c.take_firsts.ensures
