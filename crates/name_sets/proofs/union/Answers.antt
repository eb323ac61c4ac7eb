use Rattle.name_sets.specs.NameSets.{union_marks}
use Rattle.name_sets.proofs.union.Goals as goal

pub returns : goal.returns
returns c = union_marks c.args.x c.args.y
