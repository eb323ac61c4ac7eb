use Rattle.name_sets.specs.NameSets.{none_marks}
use Rattle.name_sets.proofs.none.Goals as goal

pub returns : goal.returns
returns c = none_marks
