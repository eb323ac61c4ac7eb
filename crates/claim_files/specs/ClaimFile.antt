-- claim files as document 01, T-04, T-05 and T-06 write them: the encoding in both forms, and which entries and goals a file may hold
use Rattle.std.specs.Prelude.{◌≡◌, ◌⊎◌, List, [], ◌∷◌, ◌++◌, ℕ, ◌≤◌, length}
use Rattle.verdict.specs.Lists.{Each, Rising}
use Rattle.formula.specs.Kind
use Rattle.formula.specs.Spelled.{Spelled, a_stands_lem, b_stands_lem, records_of}
use Rattle.formula.specs.Claim.{Form, clm1, clm2, fewest, SpelledClaim}
use Rattle.formula.specs.Codes.{Formula}
use Rattle.formula.specs.Fields.{map_of}
use Rattle.encoding.specs.Encode.{FitField, encode_pair, encode_two, encode_field, encode_counted, Counts}
use Rattle.encoding.specs.File.{Encodes}

-- the letters CLM1 and CLM2
abbrev pub claim_opening : Form → List ℕ
claim_opening clm1 = 67 ∷ 76 ∷ 77 ∷ 49 ∷ []
claim_opening clm2 = 67 ∷ 76 ∷ 77 ∷ 50 ∷ []

-- a bit map byte, a kind byte, then only the fields whose bit stands
abbrev pub encode_fields : ℕ → ℕ × ℕ → List ℕ
encode_fields m w = encode_field (a_stands_lem m) w.0 ++ encode_field (b_stands_lem m) w.1

abbrev pub encode_entry : Spelled → List ℕ
encode_entry e = encode_pair (e.map, e.kind) ++ encode_fields e.map (e.a, e.b)

-- two bytes, the entry count; the entries
abbrev pub encode_entries : List Spelled → List ℕ
encode_entries es = encode_counted encode_two encode_entry es

-- two bytes, the member count; the members, two-byte entry numbers
abbrev pub encode_members : List ℕ → List ℕ
encode_members ms = encode_counted encode_two encode_two ms

-- two bytes, the goal count; CLM1 has one goal and writes no count
abbrev pub encode_goal_count : Form → ℕ → List ℕ
encode_goal_count clm1 n = []
encode_goal_count clm2 n = encode_two n

-- and that many member lists
abbrev pub encode_goals : Form → List (List ℕ) → List ℕ
encode_goals f gs = encode_counted (encode_goal_count f) encode_members gs

abbrev pub encode_body : SpelledClaim → List ℕ
encode_body c = encode_entries c.spelling ++ encode_goals c.form c.goals

abbrev pub encode_claim : SpelledClaim → List ℕ
encode_claim c = claim_opening c.form ++ encode_body c

-- the map of the kind; a box or diamond may carry an action in field B (map 3)
abbrev pub FitMap : ℕ → ℕ → Type 0
FitMap m k = (m ≡ map_of k) ⊎ ((Kind.DIAMOND ≤ k) × (k ≤ Kind.BOX) × (m ≡ 3))

-- a map, and a known kind that it fits
abbrev pub FitKind : ℕ × ℕ → Type 0
FitKind p = (p.1 ≤ Kind.NAME) × FitMap p.0 p.1

-- a field that does not stand is 0 in the record
pub record FitEntry (e : Spelled) : Type 0 where
  pub known : e.kind ≤ Kind.NAME
  pub fits : FitMap e.map e.kind
  pub a_fits : FitField (a_stands_lem e.map) e.a
  pub b_fits : FitField (b_stands_lem e.map) e.b

pub record FitEntries (f : Form) (es : List Spelled) : Type 0 where
  -- the entry count (1 to 256, in CLM2 from 0 on)
  pub count : Counts (fewest f) 256 (length es)
  pub each : Each FitEntry es

pub record FitMembers (es : List Spelled) (ms : List ℕ) : Type 0 where
  -- the member count (1 to 24)
  pub count : Counts 1 24 (length ms)
  -- strictly rising
  pub rising : Rising ms
  -- entry numbers in range, no names
  pub each : Each (Formula (records_of es)) ms

-- the goal count (0 to 16); CLM1 has one goal
abbrev pub GoalCount : Form → ℕ → Type 0
GoalCount clm1 n = n ≡ 1
GoalCount clm2 n = Counts 0 16 n

pub record FitGoals (f : Form) (es : List Spelled) (gs : List (List ℕ)) : Type 0 where
  pub count : GoalCount f (length gs)
  pub each : Each (FitMembers es) gs

pub record FitClaim (c : SpelledClaim) : Type 0 where
  pub entries : FitEntries c.form c.spelling
  pub goals : FitGoals c.form c.spelling c.goals

-- the claim fits, in this form
abbrev pub FitIn : Form → SpelledClaim → Type 0
FitIn f c = (c.form ≡ f) × FitClaim c

abbrev pub FormFile : Form → List ℕ → SpelledClaim → Type 0
FormFile f bytes c = Encodes (claim_opening f) encode_body (FitIn f) bytes c

-- the bytes are a claim file of the claim's form with these entries, so spelled, and goals
pub record ClaimFile (bytes : List ℕ) (c : SpelledClaim) : Type 0 where
  pub encoded : bytes ≡ encode_claim c
  pub fits : FitClaim c
