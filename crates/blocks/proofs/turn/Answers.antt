-- the word stays, or its readers wait
use native.Mathlib.Omega.{arith}
use Rattle.blocks.specs.Turn.{turned_loud}
use Rattle.blocks.proofs.turn.Goals as goal

pub returns : goal.returns
returns c =
    let given = c.requires in
    turned_loud _ _ _ _ _ _ _ _ _ _ _ _ given.e_in_bounds.1 c.remove.ensures _ c.formed-w.ensures c.if-w-words.false (omega (arith, given.ready.words_there, given.ready.claim.few, given.e_in_bounds.0)) _ c.wake.ensures
