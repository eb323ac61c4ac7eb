-- the beginning of a state: its header and the lists of the first actions
use Rattle.std.specs.Prelude.{◌≡◌, List, [], ◌++◌, Bool, ℕ, ◌<◌, length, get_or}
use Rattle.bits.specs.Bits.{bit}
use Rattle.encoding.specs.Encode.{encode_all}
use Rattle.model_files.specs.ModelFile.{Form, has_list, encode_list, FitList}
use Rattle.model_files.specs.Header.{encode_header, FitHeader, Begun}

abbrev pub encode_begun : Form → Begun → List ℕ
encode_begun f w = encode_header f w.0 ++ encode_all encode_list w.1

-- the list of an action: one that is not empty where the action's bit stands, and else an empty one
pub record ListFits (n : ℕ) (stands : Bool) (l : List ℕ) : Type 0 where
  pub some : has_list l ≡ stands
  pub fits : FitList n l

-- in a model of n states
pub record FitBegun (f : Form) (n : ℕ) (w : Begun) : Type 0 where
  pub header : FitHeader f w.0
  pub each : (c : ℕ) → c < length w.1 → ListFits n (bit w.0.1 c) (get_or w.1 c [])
