-- in a good file the state count is there and in range
use mathlib.Core.Path.{sym}
use native.Mathlib.Omega.{arith}
use Rattle.model.specs.FileDecoding.{good_long, good_many, good_counts}
use Rattle.model.proofs.tables.state_count.Goals as goal

pub bounds-bytes-4 : goal.bounds-bytes-4
bounds-bytes-4 c = omega (arith, good_long _ c.requires)

pub returns : goal.returns
returns c = (sym (good_many _ c.requires), good_counts _ c.requires)
