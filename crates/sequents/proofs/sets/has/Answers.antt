-- `has` meets its contract: no code of 512 or more is in eight words, and any other is one bit.
use mathlib.Core.Path.{sym, ◌∙◌}
use native.Mathlib.Omega.{arith}
use borrow.Author.Tests.{le-ltb}
use Rattle.bits.specs.WordSet.{past_words, in_word}
use Rattle.sequents.proofs.sets.has.Goals as goal

pub returns-then-place-lt512 : goal.returns-then-place-lt512
returns-then-place-lt512 c l H =
    let a = c.args in
    in_word a.set.now a.code ∙ H.tells a.code

pub returns-else-place-lt512 : goal.returns-else-place-lt512
returns-else-place-lt512 c l H =
    let a = c.args in
    le-ltb _ _ c.if-place-lt512.false ∙ sym (past_words a.set.now a.code (omega (arith, H.eight, c.if-place-lt512.false))) ∙ H.tells a.code
