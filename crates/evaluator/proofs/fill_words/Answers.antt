-- what is settled is right from the first call to the last, and in the end every entry is
use native.Mathlib.Omega.{arith}
use lib.ListN.{length, get_or}
use Rattle.std.proofs.lemmas.Grind.{common_steps}
use Rattle.states.specs.Fill.{Filled}
use Rattle.evaluator.specs.Swept.{standing_first, every_word}
use Rattle.evaluator.proofs.fill_words.Goals as goal

pub eval_all-requires : goal.eval_all-requires
eval_all-requires c =
    let model = c.args.model.now in
    standing_first _ _ _ _ _ _ c.args.claim.now.is_claim model.states (c.requires.1, model.rows_inside)

pub returns : goal.returns
returns c =
    let handed : Filled (λ e. get_or c.eval_all.new.words e 0) c.args.words.now (length c.args.words.now) c.copy_from_slice.new.self = grind (arith, common_steps) in
    every_word _ _ _ _ _ _ _ _ c.eval_all.ensures _ _ c.requires.0 handed
