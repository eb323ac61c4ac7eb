-- small model files, each read by the definition
use Rattle.std.specs.Prelude.{◌≡◌, refl, List, [], ◌∷◌, ◌++◌, ℕ, replicate}
use Rattle.verdict.specs.Tests.{any, member}
use Rattle.bits.specs.Bits.{bit}
use Rattle.encoding.specs.Parse.{letters, times}
use Rattle.encoding.specs.File.{Reading, refused, good, read_file}
use Rattle.encoding.specs.Opening.{opens}
use Rattle.model_files.specs.Actions.{map_of}
use Rattle.model_files.specs.ModelFile.{mdl1, mdl2, State, opening}
use Rattle.model_files.specs.ReadModel.{lists, begun, state, body, read_form, read_model}
use Rattle.model_files.specs.Described.{mark}

abbrev old : List ℕ → Reading (List State)
unfolding read_model
old bytes = read_model (opening mdl1 ++ bytes)

abbrev new : List ℕ → Reading (List State)
unfolding read_model
new bytes = read_model (opening mdl2 ++ bytes)

-- a state with letter 2 and these lists of its first actions
abbrev lettered : List (List ℕ) → State
lettered ls = record { mask = 4; lists = ls }

abbrev none : ℕ → List (List ℕ)
none k = replicate k []

-- letter 2, and back to itself by actions 1 and 3: the map of actions is 10
abbrev loops : State
loops = lettered ([] ∷ (0 ∷ []) ∷ [] ∷ (0 ∷ []) ∷ none 12)

two_actions : new (1 ∷ 3 ∷ 4 ∷ 0 ∷ 0 ∷ 0 ∷ 10 ∷ 0 ∷ 1 ∷ 0 ∷ 1 ∷ 0 ∷ []) ≡ good (loops ∷ [])
unfolding new read_model read_form read_file letters opens body state begun lists times bit
two_actions = refl

two_marks : mark (loops ∷ []) 0 0 ≡ 10
unfolding mark map_of member any
two_marks = refl

-- action 15, which is bit 7 of the second byte
last_action : new (1 ∷ 2 ∷ 0 ∷ 128 ∷ 1 ∷ 0 ∷ []) ≡ good (record { mask = 0; lists = none 15 ++ ((0 ∷ []) ∷ []) } ∷ [])
unfolding new read_model read_form read_file letters opens body state begun lists times bit
last_action = refl

-- the old form is action 0, and the new form can say the same
action_zero : (old (1 ∷ 3 ∷ 4 ∷ 0 ∷ 0 ∷ 0 ∷ 1 ∷ 0 ∷ []) ≡ good (lettered ((0 ∷ []) ∷ none 15) ∷ []))
    × (new (1 ∷ 3 ∷ 4 ∷ 0 ∷ 0 ∷ 0 ∷ 1 ∷ 0 ∷ 1 ∷ 0 ∷ []) ≡ good (lettered ((0 ∷ []) ∷ none 15) ∷ []))
unfolding old new read_model read_form read_file letters opens body state begun lists times bit
action_zero = (refl, refl)

-- in the second of two states, whose map stands at offset 6: an empty map of actions; one cut short; a zero letter mask before it;
-- a zero count in the second list; that list missing; a successor out of range in it, and one equal to the one before
faults : (new (2 ∷ 0 ∷ 2 ∷ 0 ∷ 0 ∷ 1 ∷ 0 ∷ []) ≡ refused 63 6)
    × (new (2 ∷ 0 ∷ 2 ∷ 0 ∷ []) ≡ refused 61 8)
    × (new (2 ∷ 0 ∷ 3 ∷ 0 ∷ 0 ∷ 0 ∷ 0 ∷ []) ≡ refused 63 6)
    × (new (2 ∷ 0 ∷ 2 ∷ 3 ∷ 0 ∷ 1 ∷ 0 ∷ 0 ∷ []) ≡ refused 63 6)
    × (new (2 ∷ 0 ∷ 2 ∷ 3 ∷ 0 ∷ 1 ∷ 0 ∷ []) ≡ refused 61 11)
    × (new (2 ∷ 0 ∷ 2 ∷ 3 ∷ 0 ∷ 1 ∷ 0 ∷ 1 ∷ 2 ∷ []) ≡ refused 64 12)
    × (new (2 ∷ 0 ∷ 2 ∷ 3 ∷ 0 ∷ 1 ∷ 1 ∷ 2 ∷ 0 ∷ 0 ∷ []) ≡ refused 64 13)
unfolding new read_model read_form read_file letters opens body state begun lists times bit
faults = (refl, refl, refl, refl, refl, refl, refl)

-- neither opening
no_opening : read_model (77 ∷ 68 ∷ 76 ∷ 51 ∷ 1 ∷ 0 ∷ []) ≡ refused 60 0
unfolding read_model read_form read_file letters opens body state begun lists times bit
no_opening = refl
