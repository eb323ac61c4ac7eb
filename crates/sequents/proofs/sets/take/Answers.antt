-- `take` meets its contract: the word of the code has one bit less.
use Rattle.sequents.specs.CodeSet.{holds_without}
use Rattle.sequents.proofs.sets.take.Goals as goal

pub returns : goal.returns
returns c l H = holds_without c.args.set.now l c.args.code c.requires H
