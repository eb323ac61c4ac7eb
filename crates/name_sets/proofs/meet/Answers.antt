-- The words are below 2 ^ 64, so a word that is not 0 has a bit among the 64.
use native.Mathlib.Omega.{arith}
use Rattle.name_sets.specs.NameSets.{words_fit, meet_tells}
use Rattle.name_sets.proofs.meet.Goals as goal

pub returns : goal.returns
returns c =
    let given = c.args in
    meet_tells given.x given.y
    (words_fit given.x (omega arith) (omega arith) (omega arith) (omega arith))
    (words_fit given.y (omega arith) (omega arith) (omega arith) (omega arith))
