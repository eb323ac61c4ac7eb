use mathlib.Core.Path.{◌∙◌}
use Rattle.model.specs.Begins.{begins_opens}
use Rattle.model.proofs.for_actions.Goals as goal

pub returns : goal.returns
returns c = c.starts_with.ensures.value ∙ begins_opens _ _
