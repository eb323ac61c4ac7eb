-- refusals 10 to 14 and 72 in the documents' words: how far a claim file is well formed, and what is wrong there
use Rattle.std.specs.Prelude.{◌≡◌, List, [], ◌∷◌, ◌++◌, ℕ, ◌+◌, ◌<◌, length}
use Rattle.verdict.specs.Lists.{Each, Rising}
use Rattle.formula.specs.Spelled.{Spelled, a_stands_lem, b_stands_lem, records_of}
use Rattle.formula.specs.Claim.{Form, clm2, fewest}
use Rattle.formula.specs.Codes.{Formula}
use Rattle.bits.specs.IfSet.{if_set_lem}
use Rattle.encoding.specs.Encode.{TwoBytes, PairOfBytes, encode_pair, encode_two, encode_all, Counts}
use Rattle.encoding.specs.Stages.{Stages, Unfit}
use Rattle.encoding.specs.File.{Earned}
use Rattle.encoding.specs.FileLaws.{Opens}
use Rattle.claim_files.specs.ClaimFile.{claim_opening, encode_entry, encode_entries, encode_members, encode_goal_count, encode_body, FitKind, FitEntry, FitEntries, FitMembers, GoalCount, FitIn}

-- what comes next, after what has been read
pub data ClaimStage : Type 0 where
  at_entry_count : ClaimStage
  -- the map and kind of the next of n entries
  at_entry : ℕ → List Spelled → ClaimStage
  -- the fields of an entry of this map and kind
  at_fields : ℕ → List Spelled → ℕ × ℕ → ClaimStage
  at_goal_count : List Spelled → ClaimStage
  -- the member count of the next of k goals
  at_member_count : List Spelled → ℕ → List (List ℕ) → ClaimStage
  -- the next of its n members
  at_member : List Spelled → ℕ → List (List ℕ) → ℕ → List ℕ → ClaimStage

-- how many bytes come next
abbrev pub width : ClaimStage → ℕ
width at_entry_count = 2
width (at_entry n es) = 2
width (at_fields n es p) = if_set_lem (a_stands_lem p.0) 2 + if_set_lem (b_stands_lem p.0) 2
width (at_goal_count es) = 2
width (at_member_count es k gs) = 2
width (at_member es k gs n ms) = 2

module _ (f : Form) where
  -- bytes that may not come next, and the number that they earn
  abbrev pub Wrong : ClaimStage → List ℕ → ℕ → Type 0
  -- a count out of range; in CLM2 none is an entry count too
  Wrong at_entry_count = Unfit encode_two TwoBytes (Counts (fewest f) 256) 12
  -- map or kind unfit
  Wrong (at_entry n es) = Unfit encode_pair PairOfBytes FitKind 13
  Wrong (at_fields n es p) = λ _ _. ⊥
  -- goal count over 16
  Wrong (at_goal_count es) = Unfit encode_two TwoBytes (Counts 0 16) 72
  -- a count out of range
  Wrong (at_member_count es k gs) = Unfit encode_two TwoBytes (Counts 1 24) 12
  -- a member not rising, out of range, or a name
  Wrong (at_member es k gs n ms) = Unfit encode_two TwoBytes (λ m. Rising (ms ++ (m ∷ [])) × Formula (records_of es) m) 14

  -- some of n entries, well formed
  pub record SomeEntries (n : ℕ) (es : List Spelled) : Type 0 where
    pub count : Counts (fewest f) 256 n
    pub fewer : length es < n
    pub each : Each FitEntry es

  -- the bytes read, from the opening on
  abbrev pub done : ClaimStage → List ℕ
  done at_entry_count = []
  done (at_entry n es) = encode_two n ++ encode_all encode_entry es
  done (at_fields n es p) = encode_two n ++ (encode_all encode_entry es ++ encode_pair p)
  done (at_goal_count es) = encode_entries es
  done (at_member_count es k gs) = encode_entries es ++ (encode_goal_count f k ++ encode_all encode_members gs)
  done (at_member es k gs n ms) = encode_entries es ++ (encode_goal_count f k ++ (encode_all encode_members gs ++ (encode_two n ++ encode_all encode_two ms)))

  -- some of k goals, well formed
  pub record SomeGoals (es : List Spelled) (k : ℕ) (gs : List (List ℕ)) : Type 0 where
    pub entries : FitEntries f es
    pub count : GoalCount f k
    pub fewer : length gs < k
    pub each : Each (FitMembers es) gs

  -- some of n members of the next, well formed
  pub record SomeMembers (es : List Spelled) (k : ℕ) (gs : List (List ℕ)) (n : ℕ) (ms : List ℕ) : Type 0 where
    pub goals : SomeGoals es k gs
    pub count : Counts 1 24 n
    pub fewer : length ms < n
    pub rising : Rising ms
    pub each : Each (Formula (records_of es)) ms

  -- and they are well formed; CLM2 alone has a goal count
  abbrev pub Reached : ClaimStage → Type 0
  Reached at_entry_count = Unit
  Reached (at_entry n es) = SomeEntries n es
  Reached (at_fields n es p) = SomeEntries n es × FitKind p
  Reached (at_goal_count es) = (f ≡ clm2) × FitEntries f es
  Reached (at_member_count es k gs) = SomeGoals es k gs
  Reached (at_member es k gs n ms) = SomeMembers es k gs n ms

  abbrev pub claim_stages : Stages
  claim_stages = record { Stage = ClaimStage; done = done; Reached = Reached; width = width; Wrong = Wrong }

  -- a file of this form earns this refusal at this place
  abbrev pub FormEarns : List ℕ → ℕ → ℕ → Type 0
  FormEarns bytes n q = Earned (claim_opening f) 10 11 encode_body (FitIn f) claim_stages bytes n q

-- the claim file earns this refusal at this place
pub data ClaimEarns (bytes : List ℕ) : ℕ → ℕ → Type 0 where
  -- neither opening stands in front
  no_opening : ((f : Form) → Opens (claim_opening f) bytes → ⊥) → ClaimEarns bytes 10 0
  -- one does, and the file earns this as one of its form
  by_form : {n q : ℕ} (f : Form) → Opens (claim_opening f) bytes → FormEarns f bytes n q → ClaimEarns bytes n q
