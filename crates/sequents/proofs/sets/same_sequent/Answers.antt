-- `same_sequent` meets its contract, from what `put_sequent` and `same` promise.
use borrow.Author.Rules.{rules}
use Rattle.sequents.specs.CodeSet.{holds_none}
use Rattle.sequents.proofs.sets.same_sequent.Goals as goal

pub put_sequent-requires : goal.put_sequent-requires
put_sequent-requires c = (search rules, holds_none)

pub put_sequent-requires-2 : goal.put_sequent-requires-2
put_sequent-requires-2 c = (search rules, holds_none)
