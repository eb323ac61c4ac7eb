-- model files as the documents write them: the encoding in both forms, and which states a file may hold
use Rattle.std.specs.Prelude.{◌≡◌, List, [], ◌∷◌, ◌++◌, Bool, not, ℕ, ◌+◌, ◌<◌, ◌≤◌, ◌^◌, eqb, length, get_or}
use Rattle.verdict.specs.Lists.{Each, Rising}
use Rattle.bits.specs.IfSet.{if_set_lem}
use Rattle.encoding.specs.Encode.{encode_byte, encode_two, encode_four, encode_part, encode_all, encode_counted, Counts}
use Rattle.encoding.specs.File.{Encodes}
use Rattle.model_files.specs.Actions.{ACTIONS, map_of}

-- the form for action 0 alone, and the form for all actions
pub data Form : Type 0 where
  mdl1 : Form
  mdl2 : Form

-- the letters MDL1 and MDL2
abbrev pub opening : Form → List ℕ
opening mdl1 = 77 ∷ 68 ∷ 76 ∷ 49 ∷ []
opening mdl2 = 77 ∷ 68 ∷ 76 ∷ 50 ∷ []

-- the letters of a state as a mask, bit p for letter p; its successors by action, list n for action n
pub record State : Type 0 where
  pub mask : ℕ
  pub lists : List (List ℕ)

-- neither a mask nor a map of actions is written as zero, nor an empty list
abbrev pub has_bits : ℕ → Bool
has_bits m = not (eqb m 0)

abbrev pub has_list : List ℕ → Bool
has_list l = not (eqb (length l) 0)

-- bit 0: letter mask; bit 1: successors; other bits zero
abbrev pub map_byte : Bool → Bool → ℕ
map_byte letters successors = if_set_lem letters 1 + if_set_lem successors 2

-- bit n for action n, if its list is not empty
abbrev pub action_map : List (List ℕ) → ℕ
action_map ls = map_of ACTIONS (λ n. has_list (get_or ls n []))

-- two bytes; where action 0 is alone they are not written
abbrev pub encode_actions : Form → ℕ → List ℕ
encode_actions mdl1 a = []
encode_actions mdl2 a = encode_two a

-- a one-byte count of one-byte successors
abbrev pub encode_successors : List ℕ → List ℕ
encode_successors l = encode_counted encode_byte encode_byte l

abbrev pub encode_list : List ℕ → List ℕ
encode_list l = encode_part (has_list l) encode_successors l

-- the map of what stands; the letters; the map of actions; by rising action the lists
abbrev pub encode_state : Form → State → List ℕ
encode_state f s =
    encode_byte (map_byte (has_bits s.mask) (has_bits (action_map s.lists)))
    ++ (encode_part (has_bits s.mask) encode_four s.mask
    ++ (encode_part (has_bits (action_map s.lists)) (encode_actions f) (action_map s.lists) ++ encode_all encode_list s.lists))

-- one byte, the state count; the states
abbrev pub encode_body : Form → List State → List ℕ
encode_body f m = encode_counted encode_byte (encode_state f) m

abbrev pub encode_model : Form → List State → List ℕ
encode_model f m = opening f ++ encode_body f m

-- the successors by one action in a model of n states
pub record FitList (n : ℕ) (l : List ℕ) : Type 0 where
  -- strictly rising
  pub rising : Rising l
  -- each is a state
  pub in_range : Each (λ (u : ℕ). u < n) l

-- a state of a model of n states
pub record FitState (n : ℕ) (s : State) : Type 0 where
  -- letters 0 to 31: four bytes
  pub letters : s.mask < 2 ^ 32
  -- a list for each action
  pub actions : length s.lists ≡ ACTIONS
  pub each : Each (FitList n) s.lists

pub record FitModel (m : List State) : Type 0 where
  -- the state count (1 to 64)
  pub count : Counts 1 64 (length m)
  pub each : Each (FitState (length m)) m

-- MDL1 holds no successor by another action than 0
abbrev pub Holds : Form → State → Type 0
Holds mdl1 s = (n : ℕ) → 1 ≤ n → get_or s.lists n [] ≡ []
Holds mdl2 s = Unit

pub record FitIn (f : Form) (m : List State) : Type 0 where
  pub fits : FitModel m
  pub holds : Each (Holds f) m

-- the bytes are a model file of this form with these states
abbrev pub FormFile : Form → List ℕ → List State → Type 0
FormFile f bytes m = Encodes (opening f) (encode_body f) (FitIn f) bytes m

-- the bytes are a model file of either form with these states
pub record ModelFile (bytes : List ℕ) (m : List State) : Type 0 where
  pub form : Form
  pub encoded : bytes ≡ encode_model form m
  pub fits : FitModel m
  pub holds : Each (Holds form) m
