-- the claim by bytes: the first fault in the order of the bytes (10 to 14 and 72), or the decoding
use Rattle.std.specs.Prelude.{List, Bool, ◌&&◌, ◌||◌, ℕ, eqb, leb}
use Rattle.formula.specs.Kind
use Rattle.formula.specs.Spelled.{Spelled, a_stands_lem, b_stands_lem, records_of}
use Rattle.formula.specs.Claim.{Form, clm1, clm2, fewest, SpelledClaim}
use Rattle.formula.specs.NamedForm.{form_by}
use Rattle.formula.specs.Fields.{is_modal_lem, map_of}
use Rattle.encoding.specs.Parse.{Parser, seq, guard, via, bytes, two, field, count, times, listed, rising}
use Rattle.encoding.specs.File.{Reading, read_file}
use Rattle.encoding.specs.Known.{known}
use Rattle.encoding.specs.Opening.{opens}
use Rattle.formula.specs.Members.{is_formula}
use Rattle.claim_files.specs.ClaimFile.{claim_opening}

-- the file ends early, or bytes follow
abbrev pub early : ℕ
early = 11

-- map and kind
abbrev pub kind_fits : ℕ × ℕ → Bool
kind_fits p = leb p.1 Kind.NAME && (eqb p.0 (map_of p.1) || (is_modal_lem p.1 && eqb p.0 3))

abbrev pub map_and_kind : Parser (ℕ × ℕ)
map_and_kind s at = guard kind_fits 13 (bytes early) s at

-- the fields whose bit stands
abbrev pub fields : ℕ → Parser (ℕ × ℕ)
fields m s at = seq (field early (a_stands_lem m)) (λ _. field early (b_stands_lem m)) s at

abbrev pub made : (ℕ × ℕ) × (ℕ × ℕ) → Spelled
made p = record { map = p.0.0; kind = p.0.1; a = p.1.0; b = p.1.1 }

abbrev pub entry : Parser Spelled
entry s at = via made (seq map_and_kind (λ p. fields p.0)) s at

unfoldable pub entries : Form → Parser (List Spelled)
unfolding times
entries f s at = listed (count (fewest f) 256 12 (two early)) entry s at

unfoldable pub members : List Spelled → Parser (List ℕ)
unfolding times is_formula
members es s at = rising (count 1 24 12 (two early)) (is_formula (records_of es)) 14 (two early) s at

-- the goal count; CLM1 has one goal and writes no count
abbrev pub goal_count : Form → Parser ℕ
goal_count clm1 s at = known 1 s at
goal_count clm2 s at = count 0 16 72 (two early) s at

-- and that many member lists
unfoldable pub goals : Form → List Spelled → Parser (List (List ℕ))
unfolding times members
goals f es s at = listed (goal_count f) (members es) s at

abbrev pub claim_of : Form → List Spelled × List (List ℕ) → SpelledClaim
claim_of f p = record { form = f; spelling = p.0; goals = p.1 }

unfoldable pub body : Form → Parser SpelledClaim
unfolding entries goals
body f s at = via (claim_of f) (seq (entries f) (goals f)) s at

-- a file of one form
unfoldable pub read_form : Form → List ℕ → Reading SpelledClaim
unfolding read_file body
read_form f s = read_file (claim_opening f) 10 early (body f) s

-- by its first letters; where neither opening stands in front, the reading of CLM1 says so
abbrev pub form_of : List ℕ → Form
form_of s = form_by (opens (claim_opening clm2) s)

unfoldable pub read_claim_lem : List ℕ → Reading SpelledClaim
unfolding read_form opens
read_claim_lem s = read_form (form_of s) s
