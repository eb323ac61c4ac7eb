-- no state or all
use Rattle.blocks.specs.Turn.{start_mu, start_nu}
use Rattle.blocks.proofs.start_word.Goals as goal

pub returns-then-kind-eq-MU : goal.returns-then-kind-eq-MU
returns-then-kind-eq-MU c = start_mu _ _ c.if-kind-eq-MU.true

pub returns-else-kind-eq-MU : goal.returns-else-kind-eq-MU
returns-else-kind-eq-MU c = start_nu _ _ _ c.if-kind-eq-MU.false c.all_states.ensures
