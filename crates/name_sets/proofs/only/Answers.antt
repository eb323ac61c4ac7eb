use Rattle.name_sets.specs.NameSets.{only_marks}
use Rattle.name_sets.proofs.only.Goals as goal

pub returns : goal.returns
returns c = only_marks c.args.name _ c.kept_in.ensures c.kept_in-2.ensures c.kept_in-3.ensures c.kept_in-4.ensures
