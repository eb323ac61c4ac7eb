-- the loop walks the states one by one, each at most 1,047 bytes long
use mathlib.Core.List.{List}
use Prim.Native.Nat.{◌+◌, ◌*◌, ◌≤◌}
use lib.ListN.{length, drop}
use Rattle.encoding.specs.Walk.{Walking}
use Rattle.model_files.specs.ModelFile.{State}
use Rattle.model_files.specs.ReadModel.{state, form_by}
use Rattle.model.specs.FileSteps.{states_from}
use Rattle.model.proofs.judge.states_step.Given as goal

abbrev pub invariant-loop : goal.invariant-loop
invariant-loop l =
    (l.at ≤ length l.bytes)
    × (l.at ≤ 5 + 1047 * l.counter)
    × ((xs : List State) × Walking (λ _. state (form_by l.acts) l.states) (λ _ _. 0) (states_from (form_by l.acts) l.states l.bytes) l.states l.counter xs 0 (drop l.at l.bytes) l.at)
