-- refusals 60 to 64 in the documents' words: how far a model file is well formed, and what is wrong there
use Rattle.std.specs.Prelude.{◌≡◌, List, [], ◌∷◌, ◌++◌, Bool, true, ℕ, ◌<◌, ◌≤◌, length}
use Rattle.verdict.specs.Lists.{Each, Rising}
use Rattle.bits.specs.Bits.{bit}
use Rattle.encoding.specs.Encode.{OneByte, encode_byte, encode_all, Counts}
use Rattle.encoding.specs.Stages.{Stages, Unfit}
use Rattle.encoding.specs.File.{Earned}
use Rattle.encoding.specs.FileLaws.{Opens}
use Rattle.model_files.specs.Actions.{ACTIONS}
use Rattle.model_files.specs.ModelFile.{Form, mdl2, State, opening, encode_state, encode_body, FitState, Holds, FitIn}
use Rattle.model_files.specs.Header.{letters_stand, list_stands, MapAndMask, encode_masked, FitMasked, encode_header, Begun}
use Rattle.model_files.specs.Begun.{encode_begun, FitBegun}

-- what comes next in a state, after what has been read of it
pub data StateStage : Type 0 where
  at_map : StateStage
  -- after this map
  at_mask : ℕ → StateStage
  -- after this map and mask
  at_actions : MapAndMask → StateStage
  -- after this header and these lists
  at_count : Begun → StateStage
  -- after those, this count and these successors
  at_successor : Begun → ℕ → List ℕ → StateStage

-- the next action's list stands
abbrev pub next_stands : Begun → Bool
next_stands w = bit w.0.1 (length w.1)

-- how many bytes come next
abbrev pub state_width : StateStage → ℕ
state_width at_map = 1
state_width (at_mask m) = 4
state_width (at_actions w) = 2
state_width (at_count w) = 1
state_width (at_successor w k us) = 1

module _ (f : Form) (n : ℕ) where
  -- the bytes read, from the state's first on
  abbrev pub state_done : StateStage → List ℕ
  state_done at_map = []
  state_done (at_mask m) = encode_byte m
  state_done (at_actions w) = encode_masked w
  state_done (at_count w) = encode_begun f w
  state_done (at_successor w k us) = encode_begun f w ++ (encode_byte k ++ encode_all encode_byte us)

  -- in the lists of the first c actions: a state has those of all sixteen
  module _ (c : ℕ) where
    -- the lists before the next of these, well formed, and that one stands
    pub record SomeLists (w : Begun) : Type 0 where
      pub fits : FitBegun f n w
      pub fewer : length w.1 < c
      pub stands : next_stands w ≡ true

    -- some of its counted successors, well formed
    pub record SomeSuccessors (w : Begun) (k : ℕ) (us : List ℕ) : Type 0 where
      pub lists : SomeLists w
      pub count : OneByte k
      pub fewer : length us < k
      pub rising : Rising us
      pub each : Each (λ (u : ℕ). u < n) us

    -- what was read is well formed; MDL2 alone writes a map of actions
    abbrev pub StateReached : StateStage → Type 0
    StateReached at_map = Unit
    StateReached (at_mask m) = (m ≤ 3) × (letters_stand m ≡ true)
    StateReached (at_actions w) = (f ≡ mdl2) × FitMasked w × (list_stands w.0 ≡ true)
    StateReached (at_count w) = SomeLists w
    StateReached (at_successor w k us) = SomeSuccessors w k us

    -- bytes that may not come next in a state of a model of n states, and the number that they earn
    pub data StateWrong : StateStage → List ℕ → ℕ → Type 0 where
      -- a map unfit: a bit but 0 and 1 stands
      unfit_map : (m : ℕ) → OneByte m → (m ≤ 3 → ⊥) → StateWrong at_map (encode_byte m) 63
      -- a zero letter mask: the place is the map's
      zero_mask : (m : ℕ) → m ≤ 3 → letters_stand m ≡ true → StateWrong at_map (encode_masked (m, 0)) 63
      -- an empty map of actions: the place is the map's
      zero_actions : (w : MapAndMask) → f ≡ mdl2 → FitMasked w → list_stands w.0 ≡ true → StateWrong at_map (encode_header f (w, 0)) 63
      -- a zero count in any of the lists: the place is the map's
      zero_count : (w : Begun) → SomeLists w → StateWrong at_map (encode_begun f w ++ encode_byte 0) 63
      -- a successor not rising, or out of range
      unfit_successor : (w : Begun) (k : ℕ) (us : List ℕ) (u : ℕ) → OneByte u → (Rising (us ++ (u ∷ [])) × (u < n) → ⊥)
          → StateWrong (at_successor w k us) (encode_byte u) 64

    abbrev pub state_stages : Stages
    state_stages = record { Stage = StateStage; done = state_done; Reached = StateReached; width = state_width; Wrong = StateWrong }

-- what comes next, after what has been read
pub data ModelStage : Type 0 where
  at_state_count : ModelStage
  -- in the next of n states
  at_state : ℕ → List State → StateStage → ModelStage

module _ (f : Form) where
  -- the bytes read, from the opening on
  abbrev pub done : ModelStage → List ℕ
  done at_state_count = []
  done (at_state n m σ) = encode_byte n ++ (encode_all (encode_state f) m ++ state_done f n σ)

  -- some of n states, well formed
  pub record SomeStates (n : ℕ) (m : List State) : Type 0 where
    pub count : Counts 1 64 n
    pub fewer : length m < n
    pub each : Each (λ (s : State). FitState n s × Holds f s) m

  -- and they are well formed
  abbrev pub Reached : ModelStage → Type 0
  Reached at_state_count = Unit
  Reached (at_state n m σ) = SomeStates n m × StateReached f n ACTIONS σ

  -- how many bytes come next
  abbrev pub width : ModelStage → ℕ
  width at_state_count = 1
  width (at_state n m σ) = state_width σ

  -- bytes that may not come next, and the number that they earn
  abbrev pub Wrong : ModelStage → List ℕ → ℕ → Type 0
  -- a count out of range
  Wrong at_state_count = Unfit encode_byte OneByte (Counts 1 64) 62
  Wrong (at_state n m σ) = StateWrong f n ACTIONS σ

  abbrev pub model_stages : Stages
  model_stages = record { Stage = ModelStage; done = done; Reached = Reached; width = width; Wrong = Wrong }

  -- a file of this form earns this refusal at this place
  abbrev pub FormEarns : List ℕ → ℕ → ℕ → Type 0
  FormEarns bytes n q = Earned (opening f) 60 61 (encode_body f) (FitIn f) model_stages bytes n q

-- the model file earns this refusal at this place
pub data ModelEarns (bytes : List ℕ) : ℕ → ℕ → Type 0 where
  -- neither opening stands in front
  no_opening : ((f : Form) → Opens (opening f) bytes → ⊥) → ModelEarns bytes 60 0
  -- one does, and the file earns this as one of its form
  by_form : {n q : ℕ} (f : Form) → Opens (opening f) bytes → FormEarns f bytes n q → ModelEarns bytes n q
