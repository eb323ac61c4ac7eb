-- what stands in a state before its successors: the map, the letter mask and the map of actions
use Rattle.std.specs.Prelude.{◌≡◌, ◌≢◌, List, ◌++◌, Bool, true, false, ℕ, ◌%◌, ◌<◌, ◌≤◌, ◌^◌, eqb, leb}
use Rattle.encoding.specs.Encode.{TwoBytes, encode_byte, encode_four, encode_part}
use Rattle.model_files.specs.ModelFile.{Form, mdl1, mdl2, encode_actions}

-- bit 0 and bit 1 of a map of at most 3
abbrev pub letters_stand : ℕ → Bool
letters_stand m = eqb (m % 2) 1

abbrev pub list_stands : ℕ → Bool
list_stands m = leb 2 m

-- a number below a bound where its bit stands, and else 0
abbrev pub FitPart : ℕ → Bool → ℕ → Type 0
FitPart bound true x = x < bound
FitPart bound false x = x ≡ 0

-- what stands is not zero
abbrev pub NotZero : Bool → ℕ → Type 0
NotZero stands x = stands ≡ true → x ≢ 0

-- the map, and the letter mask where bit 0 stands
abbrev pub MapAndMask : Type 0
MapAndMask = ℕ × ℕ

abbrev pub encode_masked : MapAndMask → List ℕ
encode_masked w = encode_byte w.0 ++ encode_part (letters_stand w.0) encode_four w.1

-- they are there, whatever the mask
pub record Masked (w : MapAndMask) : Type 0 where
  pub map_fits_lem : w.0 ≤ 3
  pub mask_fits : FitPart (2 ^ 32) (letters_stand w.0) w.1

pub record FitMasked (w : MapAndMask) : Type 0 where
  pub there : Masked w
  pub filled : NotZero (letters_stand w.0) w.1

-- which maps of actions a form has: the one of action 0 alone, or any
abbrev pub Actions : Form → ℕ → Type 0
Actions mdl1 a = a ≡ 1
Actions mdl2 a = TwoBytes a

-- a map of actions where bit 1 stands, and else no action
abbrev pub FitActions : Form → Bool → ℕ → Type 0
FitActions f true a = Actions f a
FitActions f false a = a ≡ 0

-- map and mask, and the map of actions
abbrev pub Head : Type 0
Head = MapAndMask × ℕ

abbrev pub encode_header : Form → Head → List ℕ
encode_header f h = encode_masked h.0 ++ encode_part (list_stands h.0.0) (encode_actions f) h.1

-- they are there, whatever the map of actions
pub record Header (f : Form) (h : Head) : Type 0 where
  pub masked : FitMasked h.0
  pub actions_fit : FitActions f (list_stands h.0.0) h.1

pub record FitHeader (f : Form) (h : Head) : Type 0 where
  pub there : Header f h
  pub filled : NotZero (list_stands h.0.0) h.1

-- the beginning of a state: its header and the lists of its first actions
abbrev pub Begun : Type 0
Begun = Head × List (List ℕ)
