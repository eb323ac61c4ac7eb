use mathlib.Core.Path.{◌≡◌, refl}
use mathlib.Core.List.{List}
use Prim.Native.Nat.{ℕ, ◌+◌, ◌*◌}
use lib.ListN.{length}
use Rattle.encoding.specs.Places.{word_at}
use Rattle.verdict.specs.WrittenLaws.{sets_more}
use Rattle.nodes.specs.ProofDecode.{words_at, words_at_length, words_at_more}
use Rattle.nodes.proofs.copy_words.Goals as goal

pub loop-i-init : goal.loop-i-init
unfolding words_at
loop-i-init c = refl

pub loop-i-preserved : goal.loop-i-preserved
loop-i-preserved c =
    let turn = c.loop-i in
    let file : List ℕ = c.args.bytes.now in
    let words : List ℕ = words_at file c.args.at turn.i in
    let long : length words ≡ turn.i = words_at_length file c.args.at turn.i in
    rw (turn.invariant, c.word_at.ensures, words_at_more file c.args.at turn.i, sets_more words c.args.words.now c.args.start (word_at file (c.args.at + 2 * turn.i)), long) refl
