-- a state read up to some list, and one list more
use Rattle.std.specs.Prelude.{Bool}
use mathlib.Core.List.{List, [], ◌∷◌, ◌++◌}
use Prim.Native.Nat.{ℕ}
use Rattle.bits.specs.Bits.{bit}
use Rattle.encoding.specs.Parse.{Parser, seq, guard, via, part, times, byte}
use Rattle.model_files.specs.ModelFile.{Form}
use Rattle.model_files.specs.Header.{Begun}
use Rattle.model_files.specs.ReadModel.{early, not-zero, successors, begun}

-- whether the list of action c stands
abbrev pub stands : ℕ → Begun → Bool
stands c w = bit w.0.1 c

-- the count of the list of action c, after those before it
abbrev pub some : ℕ → Begun × ℕ → Bool
some c z = not-zero (stands c z.0) z.1

abbrev pub counted : Form → ℕ → ℕ → Parser (Begun × ℕ)
counted f n c s at = guard (some c) 63 (seq (begun f n c) (λ w. part 0 (stands c w) (byte early))) s at

abbrev pub with_list : (Begun × ℕ) × List ℕ → Begun
with_list y = (y.0.0.0, y.0.0.1 ++ (y.1 ∷ []))

abbrev pub one_more_lem : Form → ℕ → ℕ → Parser Begun
unfolding times
one_more_lem f n c s at = via with_list (seq (counted f n c) (λ z. successors n z.1)) s at
