-- Nothing is due in the round of an entry that is no fixpoint.
use mathlib.Core.Path.{sym, ◌∙◌}
use Rattle.rounds.specs.Rounds.{round_of_none}
use Rattle.rounds.proofs.turn.Goals as goal

pub returns-then-not-is_fixpoint : goal.returns-then-not-is_fixpoint
returns-then-not-is_fixpoint c =
    let given = c.requires in
    round_of_none _ given c.if-q-count.true (sym c.is_fixpoint.ensures ∙ c.if-not-is_fixpoint.true)
