-- the file that a claim's records make is read to where the walk over them ends
use Rattle.std.specs.Prelude.{◌≡◌, true, ℕ, ◌+◌, ◌*◌, ◌≤◌, length}
use Rattle.std.proofs.Math.Path.{refl, ap}
use Rattle.std.proofs.Common.{sym, ◌∙◌, arith, length-append}
use mathlib.Core.List.{List, [], ◌++◌, append-nil}
use Rattle.formula.specs.Table.{Table}
use Rattle.formula.specs.Spelled.{Spelled}
use Rattle.formula.specs.Claim.{Form, clm1, clm2, SpelledClaim}
use Rattle.encoding.specs.Encode.{encode_all}
use Rattle.encoding.specs.File.{Reading, ending}
use Rattle.encoding.specs.Parse.{Got, got, pick, bind}
use Rattle.claim_files.specs.ClaimFile.{claim_opening, encode_goal_count, GoalCount}
use Rattle.claim_files.specs.ReadClaim.{early, goals, claim_of, body, read_form, read_claim_lem}
use Rattle.claim_files.specs.ClaimExact.{form_opens, read_in}
use Rattle.writing.specs.RecordBytes.{clipped, table_bytes, member_bytes, goal_bytes, claim_bytes, claim_head, split}
use Rattle.writing.specs.Goals.{goals_fit, goals_fit_lem}
use Rattle.writing.specs.Spelling.{spelling_of, spelled_claim, records_spelled}
use Rattle.writing.specs.Ends.{End, next, stop, go_on, cut_end, walk, got_by, read_by, after_opening, passed, went}
use Rattle.writing.specs.EntryEnds.{table_end, table_past, entries_near}
use Rattle.writing.proofs.EntryEnds.{table_read}
use Rattle.writing.specs.GoalEnds.{lists_end, goal_number, goal_count_end, goals_end, lists_past, goal_count_past}
use Rattle.writing.proofs.GoalEnds.{goals_read, goals_cut}
use Rattle.writing.specs.ClaimEnds.{ClaimPassed, claim_end, longest_claim}

opening_long : (f : Form) → length (claim_opening f) ≡ 4
opening_long clm1 = refl
opening_long clm2 = refl

opened : (f : Form) (s : List ℕ) → read_claim_lem (claim_opening f ++ s) ≡ ending early (body f s 4)
unfolding read_form
opened f s = read_in f (claim_opening f ++ s) (form_opens f (claim_opening f ++ s) (s, refl)) ∙ after_opening (claim_opening f) 10 early (body f) s (opening_long f)

-- the claim's records are read as they are spelled, or refused where the walk stops: whatever follows the table
module _ (f : Form) (n : ℕ) (es : Table) (long : n ≤ 256 → length es ≡ n) where
  after_goals : List Spelled → Got (List (List ℕ)) → Reading SpelledClaim
  after_goals ss g = ending early (bind (bind g (λ y r o. got (ss, y) r o)) (λ p r o. got (claim_of f p) r o))

  after_table : Got (List Spelled) → Reading SpelledClaim
  unfolding goals
  after_table g = ending early (bind (bind g (λ ss r o. bind (goals f ss r o) (λ y u z. got (ss, y) u z))) (λ p r o. got (claim_of f p) r o))

  module _ (bytes : List ℕ) (x : List (List ℕ)) (rest : ℕ → End) (met : (o : ℕ) → goals f (spelling_of es) bytes o ≡ got_by x [] (rest o)) where
    goals_end_lem : (e : End) → after_goals (spelling_of es) (got_by x [] e) ≡ read_by (spelled_claim f es x) e
    unfolding after_goals
    goals_end_lem (next o) = refl
    goals_end_lem (stop m q) = refl

    table_end_lem : (e : End) → after_table (got_by (spelling_of es) bytes e) ≡ read_by (spelled_claim f es x) (go_on e rest)
    unfolding after_table after_goals
    table_end_lem (stop m q) = refl
    table_end_lem (next o) = ap (after_goals (spelling_of es)) (met o) ∙ goals_end_lem (rest o)

    follows : read_claim_lem (claim_opening f ++ (table_bytes n es ++ bytes)) ≡ read_by (spelled_claim f es x) (go_on (table_end f n es 4) rest)
    unfolding body walk after_table
    follows = opened f (table_bytes n es ++ bytes) ∙ ap after_table (table_read es bytes f n 4 long) ∙ table_end_lem (table_end f n es 4)

  pub claim_ends : (gs ms : List ℕ) → goals_fit f gs ms ≡ true → read_claim_lem (claim_bytes f n es (split gs ms)) ≡ read_by (spelled_claim f es (split gs ms)) (claim_end f n es gs ms)
  unfolding lists_end
  claim_ends gs ms fit =
      follows (goal_bytes f (split gs ms)) (split gs ms) (goals_end f es gs ms)
      (λ o. ap (λ (s : List ℕ). goals f (spelling_of es) s o) (sym (append-nil (goal_bytes f (split gs ms)))) ∙ goals_read (spelling_of es) es (records_spelled es) f gs ms [] o fit)

  -- a file that stops after the goal count
  pub claim_cut : (k : ℕ) → read_claim_lem (claim_head f n es k)
      ≡ read_by (spelled_claim f es []) (go_on (table_end f n es 4) (λ o. go_on (goal_count_end f k o) (λ u. cut_end early (goal_number f k) u)))
  unfolding walk
  claim_cut k = follows (encode_goal_count f (clipped k)) [] (λ o. go_on (goal_count_end f k o) (λ u. cut_end early (goal_number f k) u)) (goals_cut (spelling_of es) es (records_spelled es) f k)

goals_near : (f : Form) (k m at o : ℕ) → GoalCount f k → at ≤ 1542 → o ≤ at + length (encode_goal_count f m) + 50 * k → o ≤ longest_claim f
goals_near clm1 k m at o one h l = omega arith
goals_near clm2 k m at o few h l = omega (arith, few.1)

pub claim_passed : (f : Form) (n : ℕ) (es : Table) (gs ms : List ℕ) (o : ℕ) → claim_end f n es gs ms ≡ next o → ClaimPassed f n es gs ms o
unfolding lists_end walk
claim_passed f n es gs ms o h =
    let table = went (table_end f n es 4) (λ o. goals_end f es gs ms o) h in
    let (some, there) = table_past f n es table.place table.first in
    let counted = went (goal_count_end f (length gs) table.place) (λ o. pick (goals_fit f gs ms) (lists_end es gs ms o) (stop 12 table.place)) table.then in
    let (fit, listed) = passed (goals_fit f gs ms) (lists_end es gs ms counted.place) 12 table.place counted.then in
    let (may, sum) = goals_fit_lem f gs ms fit in
    let m = clipped (length (split gs ms)) in
    let (many, on) = goal_count_past f (length gs) m table.place counted.place may counted.first in
    let (each, end, near) = lists_past es gs ms counted.place o (omega arith) listed in
    record {
      entries = some;
      goals = many;
      fit = fit;
      few = each;
      end = omega (
        arith,
        there,
        on,
        end,
        opening_long f,
        length-append (claim_opening f) (table_bytes n es ++ goal_bytes f (split gs ms)),
        length-append (table_bytes n es) (goal_bytes f (split gs ms)),
        length-append (encode_goal_count f m) (encode_all member_bytes (split gs ms)),
      );
      near = λ same. goals_near f (length gs) m table.place o many (omega (arith, there, entries_near es)) (omega (arith, on, near));
    }
