-- goals are cut to the lengths that they were given
use Rattle.std.specs.Prelude.{◌≡◌, refl, List, [], ◌∷◌, ℕ, ◌≤◌, length, drop}
use Rattle.std.proofs.Common.{arith, length-drop}
use Rattle.writing.specs.RecordBytes.{split}
use Rattle.writing.specs.Goals.{first_there, lengths, total}

pub lengths_split : (gs ms : List ℕ) → total gs ≤ length ms → lengths (split gs ms) ≡ gs
unfolding total split
lengths_split [] ms h = refl
lengths_split (k ∷ gs) ms h = rw (first_there k gs ms h, lengths_split gs (drop k ms) (omega (arith, length-drop k ms))) refl
