use Rattle.rounds.specs.Rounds.{round_ends}
use Rattle.rounds.proofs.round.Goals as goal

pub returns : goal.returns
returns c = round_ends c.loop-e.invariant c.loop-e-test.false
