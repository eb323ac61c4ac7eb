-- where the walk over a claim's records ends, or the refusal, and the longest claim
use Rattle.std.specs.Prelude.{◌≡◌, true, ℕ, ◌≤◌, length}
use mathlib.Core.List.{List}
use Rattle.verdict.specs.Lists.{Each}
use Rattle.formula.specs.Table.{Table}
use Rattle.formula.specs.Claim.{Form, clm1, clm2, fewest}
use Rattle.encoding.specs.Encode.{Counts}
use Rattle.claim_files.specs.ClaimFile.{GoalCount}
use Rattle.writing.specs.RecordBytes.{claim_bytes, split}
use Rattle.writing.specs.Goals.{goals_fit}
use Rattle.writing.specs.Ends.{End, go_on}
use Rattle.writing.specs.EntryEnds.{table_end}
use Rattle.writing.specs.GoalEnds.{goals_end}

-- 12 to 14 and 72: where the claim ends
abbrev pub claim_end : Form → ℕ → Table → List ℕ → List ℕ → End
claim_end f n es gs ms = go_on (table_end f n es 4) (λ o. goals_end f es gs ms o)

-- so no claim is longer
abbrev pub longest_claim : Form → ℕ
longest_claim clm1 = 1592
longest_claim clm2 = 2344

-- what a walk to the end tells: the counts are in range and fit, and it ends where the file does
pub record ClaimPassed (f : Form) (n : ℕ) (es : Table) (gs ms : List ℕ) (o : ℕ) : Type 0 where
  pub entries : Counts (fewest f) 256 n
  pub goals : GoalCount f (length gs)
  pub fit : goals_fit f gs ms ≡ true
  pub few : Each (λ (k : ℕ). k ≤ 24) gs
  pub end : o ≡ length (claim_bytes f n es (split gs ms))
  pub near : length es ≡ n → o ≤ longest_claim f
