-- what the test of a row is, by the word that the row is
use Rattle.std.proofs.Common.{arith, get_or}
use Rattle.states.specs.StateWords.{box_test}
use Rattle.modal_words.proofs.box_word.Goals as goal

pub returns : goal.returns
returns c =
    c.word_where.ensures _
    (λ s b l k. let told = box_test c.args.n (get_or c.args.rows.now s 0) c.args.w (λ u h. c.requires.2 s u l h) in search (arith, told, k))
