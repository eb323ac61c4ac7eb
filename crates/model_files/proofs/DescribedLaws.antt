-- the marks of the successor table tell the described model's successors
use Rattle.std.specs.Prelude.{◌≡◌, ℕ, ◌<◌}
use Rattle.std.proofs.Math.Path.{sym, ap}
use Rattle.std.proofs.Common.{◌∙◌, arith}
use mathlib.Core.List.{List}
use Rattle.std.proofs.Math.Decide.{dec_lt}
use Rattle.verdict.specs.Tests.{member}
use Rattle.bits.specs.Bits.{bit}
use Rattle.model_files.specs.Actions.{ACTIONS, map_past}
use Rattle.model_files.specs.ModelFile.{State, FitModel}
use Rattle.model_files.specs.Described.{state, successors, model_of, mark, successor_table}
use Rattle.model_files.specs.DescribedLaws.{cell, cell-is, cell_mark, no_action}

module _ {m : List State} (f : FitModel m) where
  -- the marks tell every action
  pub cell_tells : (n s u : ℕ) → s < 64 → u < 64 → bit (cell (successor_table m) s u) n ≡ (model_of m).succ n s u
  unfolding mark
  cell_tells n s u h k = go (dec_lt n ACTIONS)
    where
      go : Dec (n < ACTIONS) → bit (cell (successor_table m) s u) n ≡ (model_of m).succ n s u
      go (yes l) = cell-is m n s u l h k
      go (no l) =
          ap (λ (w : ℕ). bit w n) (cell_mark m s u h k) ∙ map_past ACTIONS (λ (a : ℕ). member (successors (state m s) a) u) n (omega arith)
          ∙ sym (no_action f n s u (omega arith))
