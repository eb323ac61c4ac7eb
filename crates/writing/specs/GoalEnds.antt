-- the goals of a claim's records: where the walk over the counts and the members ends, or the refusal
use Rattle.std.specs.Prelude.{◌≡◌, take, drop}
use Rattle.std.proofs.Common.{arith, eqb-true}
use mathlib.Core.List.{List, [], ◌∷◌}
use Rattle.std.proofs.Math.Bool.{true}
use Prim.Native.Nat.{ℕ, ◌+◌, ◌*◌, ◌≤◌}
use Rattle.std.proofs.Math.ListN.{length, length-append, length-drop}
use Rattle.verdict.specs.Lists.{Each, none, more}
use Rattle.formula.specs.Table.{Table}
use Rattle.formula.specs.Claim.{Form, clm1, clm2}
use Rattle.formula.specs.Members.{is_formula}
use Rattle.encoding.specs.Encode.{encode_all}
use Rattle.encoding.specs.ListLaws.{range_tells}
use Rattle.encoding.specs.Parse.{pick, two, in_range}
use Rattle.claim_files.specs.ClaimFile.{encode_goal_count, GoalCount}
use Rattle.claim_files.specs.ReadClaim.{early}
use Rattle.writing.specs.RecordBytes.{member_bytes, split}
use Rattle.writing.specs.Goals.{total, may_have, goals_fit, first_there}
use Rattle.writing.specs.Ends.{End, next, stop, go_on, walk, passed, went, next_same}
use Rattle.writing.specs.FieldEnds.{count_end, rising_end, rising_past, numbers_long}

abbrev pub members_end : Table → List ℕ → ℕ → End
members_end es ms at = rising_end (is_formula es) 14 ms at

-- the member count, then so many members
abbrev pub listed_end : Table → ℕ → List ℕ → ℕ → End
listed_end es k ms at = go_on (count_end 1 24 12 k at) (λ o. members_end es ms o)

-- the goals by their member counts: each has its members after those of the goals before it
unfoldable pub lists_end : Table → List ℕ → List ℕ → ℕ → End
unfolding walk
lists_end es [] ms at = next at
lists_end es (k ∷ gs) ms at = go_on (listed_end es k (take k ms) at) (λ o. lists_end es gs (drop k ms) o)

-- the goal count; CLM1 writes none
abbrev pub goal_count_end : Form → ℕ → ℕ → End
goal_count_end clm1 k at = next at
goal_count_end clm2 k at = count_end 0 16 72 k at

-- 72, then the sum of the counts, then list by list
abbrev pub goals_end : Form → Table → List ℕ → List ℕ → ℕ → End
goals_end f es gs ms at = go_on (goal_count_end f (length gs) at) (λ o. pick (goals_fit f gs ms) (lists_end es gs ms o) (stop 12 at))

module _ (es : Table) where
  -- a list of members that passes ends after its bytes
  pub listed_past : (k : ℕ) (ms : List ℕ) (at o : ℕ) → listed_end es k ms at ≡ next o → (k ≤ 24) × (o ≡ at + length (member_bytes ms))
  unfolding walk
  listed_past k ms at o h =
      let w = went (count_end 1 24 12 k at) (λ o. members_end es ms o) h in
      let (b, two) = passed (in_range 1 24 k) (next (at + 2)) 12 at w.first in
      (((range_tells 1 24 k).says b).1, omega (arith, next_same two, rising_past early (is_formula es) 14 ms w.place o w.then))

  -- and so do all, none with more than 24 members
  pub lists_past : (gs ms : List ℕ) (at o : ℕ) → total gs ≤ length ms → lists_end es gs ms at ≡ next o
      → Each (λ (k : ℕ). k ≤ 24) gs × (o ≡ at + length (encode_all member_bytes (split gs ms))) × (o ≤ at + 50 * length gs)
  unfolding lists_end total split encode_all
  lists_past [] ms at o fit h = (none, omega (arith, next_same h), omega (arith, next_same h))
  lists_past (k ∷ gs) ms at o fit h =
      let w = went (listed_end es k (take k ms) at) (λ o. lists_end es gs (drop k ms) o) h in
      let (few, end) = listed_past k (take k ms) at w.place w.first in
      let (each, ends, near) = lists_past gs (drop k ms) w.place o (omega (arith, length-drop k ms)) w.then in (
        more few each,
        omega (arith, end, ends, length-append (member_bytes (take k ms)) (encode_all member_bytes (split gs (drop k ms)))),
        omega (arith, end, near, numbers_long (take k ms), first_there k gs ms fit),
      )

-- how many goals the reader looks for
abbrev pub goal_number : Form → ℕ → ℕ
goal_number clm1 k = 1
goal_number clm2 k = k

-- a goal count that passes ends after its bytes, whatever it is
pub goal_count_past : (f : Form) (k m at o : ℕ) → may_have f k ≡ true → goal_count_end f k at ≡ next o → GoalCount f k × (o ≡ at + length (encode_goal_count f m))
goal_count_past clm1 k m at o may h = (eqb-true k 1 may, omega (arith, next_same h))
goal_count_past clm2 k m at o may h =
    let (b, two) = passed (in_range 0 16 k) (next (at + 2)) 72 at h in
    ((range_tells 0 16 k).says b, omega (arith, next_same two))
