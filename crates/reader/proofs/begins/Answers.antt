-- A refusal before the files stands; else the claim's beginning is asked.
use mathlib.Core.Path.{ap}
use Rattle.verdict.specs.Shown.{shown}
use Rattle.reader.specs.Begins.{beginning_refuses}
use Rattle.reader.proofs.begins.Goals as goal

pub returns : goal.returns
returns c = beginning_refuses _ (ap shown c.in_ok-before.was) c.judge_beginning.ensures
