-- the first entries are a claim, and their words stand in front of what was there before
use mathlib.Core.Path.{sym, ◌∙◌}
use lib.Seq.{length-take-le}
use Rattle.forming.specs.Claim.{first_claim}
use Rattle.evaluator.specs.Swept.{first_written}
use Rattle.evaluator.proofs.evaluate.Goals as goal

pub invariant_of-claim : goal.invariant_of-claim
invariant_of-claim c = record { is_claim = first_claim c.requires.given }

pub fill_all-requires : goal.fill_all-requires
fill_all-requires c =
    let given = c.requires.given in
    length-take-le _ _ given.words_there ∙ sym (length-take-le _ _ given.kinds_there)

pub returns : goal.returns
returns c =
    first_written c.requires.given c.args.masks.now c.args.marks _ _ c.fill_all.ensures
