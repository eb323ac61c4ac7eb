use mathlib.Core.Path.{refl}
use Rattle.samples.specs.Samples.{samples}
use Rattle.samples.proofs.count.Goals as goal

pub returns : goal.returns
unfolding samples
returns c = refl
