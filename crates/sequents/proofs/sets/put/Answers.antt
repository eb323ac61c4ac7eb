-- `put` meets its contract: the word of the code has one bit more.
use Rattle.sequents.specs.CodeSet.{holds_with}
use Rattle.sequents.proofs.sets.put.Goals as goal

pub returns : goal.returns
returns c l H = holds_with c.args.set.now l c.args.code c.requires H
