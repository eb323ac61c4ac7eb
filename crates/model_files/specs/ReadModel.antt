-- the model by bytes: the first fault in the order of the bytes (60 to 64), or the decoding
use Rattle.std.specs.Prelude.{List, [], Bool, true, false, not, ◌||◌, ℕ, suc, eqb, ltb, leb}
use Rattle.bits.specs.Bits.{bit}
use Rattle.encoding.specs.Parse.{fault, got, Parser, pick, bind, seq, guard, via, part, times, listed, rising, count, byte, two, four}
use Rattle.encoding.specs.File.{Reading, read_file}
use Rattle.encoding.specs.Known.{known}
use Rattle.encoding.specs.Opening.{opens}
use Rattle.model_files.specs.Actions.{ACTIONS}
use Rattle.model_files.specs.ModelFile.{Form, mdl1, mdl2, State, opening}
use Rattle.model_files.specs.Header.{letters_stand, list_stands, MapAndMask, Head, Begun}

-- the file ends early, or bytes follow
abbrev pub early : ℕ
early = 61

-- bits but 0 and 1 are zero
abbrev pub map_fits_lem : ℕ → Bool
map_fits_lem m = leb m 3

abbrev pub map : Parser ℕ
map s at = guard map_fits_lem 63 (byte early) s at

-- what stands in a state is not zero
abbrev pub not-zero : Bool → ℕ → Bool
not-zero stands x = not stands || not (eqb x 0)

-- the map and the letter mask; a zero mask is judged before what follows it, and its place is the map's
abbrev pub mask_fits : MapAndMask → Bool
mask_fits w = not-zero (letters_stand w.0) w.1

abbrev pub masked : Parser MapAndMask
masked s at = guard mask_fits 63 (seq map (λ m. part 0 (letters_stand m) (four early))) s at

-- the map of actions, which MDL1 does not write
abbrev pub actions : Form → Parser ℕ
actions mdl1 s at = known 1 s at
actions mdl2 s at = two early s at

-- map, mask and map of actions; the place of an empty map of actions is the map's too
abbrev pub actions_fit : Head → Bool
actions_fit h = not-zero (list_stands h.0.0) h.1

abbrev pub header : Form → Parser Head
header f s at = guard actions_fit 63 (seq masked (λ w. part 0 (list_stands w.0) (actions f))) s at

-- a count of successors in the state that begins at a place: a zero count is a fault there
abbrev pub list_count : ℕ → Parser ℕ
list_count begin s at = bind (byte early s at) (λ k r o. pick (not (eqb k 0)) (got k r o) (fault 63 begin))

-- k successors, strictly rising and below n
abbrev pub successors : ℕ → ℕ → Parser (List ℕ)
unfolding times
successors n k s at = rising (known k) (λ u. ltb u n) 64 (byte early) s at

-- the successors by one action, after their count
abbrev pub list : ℕ → ℕ → Parser (List ℕ)
unfolding times
list begin n s at = bind (list_count begin s at) (λ k r o. successors n k r o)

-- the list of action c, which stands where its bit of the map of actions does
abbrev pub next_list : ℕ → ℕ → ℕ → ℕ → Parser (List ℕ)
unfolding times
next_list begin n a c s at = part [] (bit a c) (list begin n) s at

-- by rising action those of the first k actions
unfoldable pub lists : ℕ → ℕ → ℕ → ℕ → Parser (List (List ℕ))
unfolding times
lists begin n a k s at = times (next_list begin n a) (λ c _. suc c) k 0 s at

-- the header and the lists of the first k actions
unfoldable pub begun : Form → ℕ → ℕ → Parser Begun
unfolding lists
begun f n k s at = seq (header f) (λ h. lists at n h.1 k) s at

abbrev pub made : Begun → State
made w = record { mask = w.0.0.1; lists = w.1 }

unfoldable pub state : Form → ℕ → Parser State
unfolding begun
state f n s at = via made (begun f n ACTIONS) s at

-- one byte, 1 to 64
abbrev pub state_count : Parser ℕ
state_count s at = count 1 64 62 (byte early) s at

abbrev pub states : Form → ℕ → Parser (List State)
unfolding times
states f n s at = listed (known n) (state f n) s at

unfoldable pub body : Form → Parser (List State)
unfolding times
body f s at = via (λ (w : ℕ × List State). w.1) (seq state_count (states f)) s at

-- a file of one form
unfoldable pub read_form : Form → List ℕ → Reading (List State)
unfolding read_file body
read_form f bytes = read_file (opening f) 60 early (body f) bytes

abbrev pub form_by : Bool → Form
form_by true = mdl2
form_by false = mdl1

-- by its first letters; where neither opening stands in front, the reading of MDL1 says so
abbrev pub form_of : List ℕ → Form
form_of bytes = form_by (opens (opening mdl2) bytes)

unfoldable pub read_model : List ℕ → Reading (List State)
unfolding read_form
read_model bytes = read_form (form_of bytes) bytes
