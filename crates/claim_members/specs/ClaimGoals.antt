-- the goals of a claim file, as the program walks over them and stores the members of each after those of the one before
use Rattle.std.specs.Prelude.{◌≡◌, Bool, true, false, ℕ, ◌+◌, ◌*◌, ◌<◌, ◌≤◌, drop}
use Rattle.std.proofs.Math.Path.{refl, ap}
use Rattle.std.proofs.Common.{sym, ◌∙◌}
use mathlib.Core.List.{List, [], ◌∷◌, ◌++◌}
use native.Mathlib.Omega.{arith}
use Rattle.std.proofs.Math.ListN.{length, set, length-append}
use Rattle.std.proofs.Math.Seq.{sets}
use Rattle.verdict.specs.Lists.{written}
use Rattle.verdict.specs.WrittenLaws.{written_length, written_more, written_on}
use Rattle.formula.specs.Claim.{Form, clm1, clm2}
use Rattle.formula.specs.NamedForm.{form_by}
use Rattle.formula.specs.Columns.{kind_column}
use Rattle.formula.specs.Spelled.{Spelled, marked_of}
use Rattle.encoding.specs.Parse.{Got, fault, Parser, times, listed}
use Rattle.encoding.specs.GotLaws.{same_value}
use Rattle.encoding.specs.Parsed.{Parsed}
use Rattle.encoding.specs.Places.{InFile}
use Rattle.encoding.specs.Walk.{Reached, Walking, walk_begins, walk_steps, walk_stops, walk_ends, counted_starts, counted_cut}
use Rattle.file_parts.specs.Numbers.{count_at_lem, count_inside}
use Rattle.file_parts.specs.Parts.{ListRead, PartTells, part_as}
use Rattle.claim_files.specs.ReadClaim.{early, goal_count, goals}
use Rattle.claim_members.specs.ClaimMembers.{members_by, members_at, MembersStored, members_same}
use Rattle.claim_members.specs.GoalColumns.{joined, ends_from, starts_of, joined-more, ends_more, ends_length, GoalsStored, columns_stored}

-- what stands at a place of a file
unfoldable pub goal_count_at : Form → List ℕ → ℕ → Got ℕ
goal_count_at f s at = goal_count f (drop at s) at

-- k goals from a place on
unfoldable pub goals_from : List ℕ → ℕ → ℕ → List ℕ → ℕ → Got (List (List ℕ))
goals_from ks n k s at = times (λ _. members_by ks n) (λ _ _. 0) k 0 (drop at s) at

-- the goals' part of a file, in sight of the entries' kinds
unfoldable pub goals_at : Form → List ℕ → ℕ → List ℕ → ℕ → Got (List (List ℕ))
unfolding times
goals_at f ks n s at = listed (goal_count f) (members_by ks n) (drop at s) at

-- as it is read in sight of the entries
pub goals_same : (f : Form) (es : List Spelled) (old s : List ℕ) (at : ℕ) → goals f es (drop at s) at ≡ goals_at f (written (kind_column (marked_of es)) old) (length es) s at
unfolding goals goals_at times
goals_same f es old s at = ap (λ (p : Parser (List ℕ)). listed (goal_count f) p (drop at s) at) (members_same es old)

-- the count where there are several goals, and where there is one
module _ (s : List ℕ) (at : ℕ) where
  pub several_counted : {several : Bool} → several ≡ true → goal_count_at (form_by several) s at ≡ count_at_lem 0 16 72 early s at
  unfolding goal_count_at count_at_lem
  several_counted e = rw e refl

  pub one_known : {several : Bool} → several ≡ false → at ≤ length s → Reached s (at + 2) (goal_count_at (form_by several) s at) 1 at
  unfolding goal_count_at
  one_known e h = record { found = rw e refl; inside = h; near = omega arith }

  few_goals : (f : Form) {limit k o : ℕ} → Reached s limit (goal_count_at f s at) k o → k ≤ 16
  unfolding goal_count_at count_at_lem
  few_goals clm1 h = omega (arith, same_value h.found)
  few_goals clm2 h = (count_inside early s at 0 16 72 h).1

  -- the part begins at offset 1,542 or before
  pub goals_place : (f : Form) → InFile s 1542 at → {k o : ℕ} → Reached s (at + 2) (goal_count_at f s at) k o → InFile s 1544 o × (k ≤ 16)
  goals_place f p h = (record { within = h.inside; low = omega (arith, h.near, p.low) }, few_goals f h)

module _ (f : Form) (ks : List ℕ) (n : ℕ) (s : List ℕ) (at : ℕ) where
  pub goals_cut : {m q : ℕ} → goal_count_at f s at ≡ fault m q → goals_at f ks n s at ≡ fault m q
  unfolding goals_at goal_count_at times
  goals_cut h = counted_cut (λ _. members_by ks n) (λ _ _. 0) (goal_count f) (drop at s) at h

  module _ {k o : ℕ} (h : Reached s (at + 2) (goal_count_at f s at) k o) where
    -- a goal takes 50 bytes at most: none lies past offset 2,344
    pub goals_tell : InFile s 1542 at → (Stored : List (List ℕ) → Type 0) (r : Parsed ℕ) → PartTells s (o + 50 * k) 16 (goals_from ks n k s o) Stored r → PartTells s 2344 16 (goals_at f ks n s at) Stored r
    unfolding goals_at goals_from goal_count_at times
    goals_tell p Stored r t =
        part_as s 16 Stored r (omega (arith, h.near, p.low, (goals_place s at f p h).1))
        (counted_starts (λ _. members_by ks n) (λ _ _. 0) (goal_count f) (drop at s) at h.found) t

-- i of k goals are read and stored, with so many members
pub record Gathered (ks : List ℕ) (n : ℕ) (s : List ℕ) (from k : ℕ) (gs₀ ms₀ : List ℕ) (i at start : ℕ) (gs ms : List ℕ) : Type 0 where
  pub list : List (List ℕ)
  pub walking : Walking (λ _. members_by ks n) (λ _ _. 0) (goals_from ks n k s from) k i list 0 (drop at s) at
  pub starts : gs ≡ written (starts_of list) gs₀
  pub members : ms ≡ written (joined list) ms₀
  pub counted : start ≡ length (joined list)
  pub few : start ≤ 24 * i
  pub within : at ≤ length s
  pub near : at ≤ from + 50 * i

-- the first goal starts at 0
first-start : (gs : List ℕ) → length gs ≡ 17 → set gs 0 0 ≡ written (0 ∷ []) (set gs 0 0)
first-start [] h = absurd (omega arith)
first-start (x ∷ gs) h = refl

module _ (ks : List ℕ) (n : ℕ) (s : List ℕ) (from k : ℕ) where
  pub none_gathered : (gs ms : List ℕ) → length gs ≡ 17 → from ≤ length s → Gathered ks n s from k (set gs 0 0) ms 0 from 0 (set gs 0 0) ms
  unfolding goals_from joined ends_from
  none_gathered gs ms l h = record {
    list = [];
    walking = walk_begins (λ _. members_by ks n) (λ _ _. 0) k 0 (drop from s) from;
    starts = first-start gs l;
    members = refl;
    counted = refl;
    few = omega arith;
    within = h;
    near = omega arith;
  }

  module _ {gs₀ ms₀ : List ℕ} {i at start : ℕ} {gs ms : List ℕ} (e : Gathered ks n s from k gs₀ ms₀ i at start gs ms) where
    -- the array is as long as it was
    pub members_long : length ms₀ ≡ 384 → i ≤ 16 → length ms ≡ 384
    members_long l h = ap length e.members ∙ written_length (joined e.list) ms₀ (omega (arith, e.counted, e.few)) ∙ l

    pub gathering_stops : i < k → {m q : ℕ} → members_at ks n s at ≡ fault m q → goals_from ks n k s from ≡ fault m q
    unfolding members_at
    gathering_stops h f = walk_stops (λ _. members_by ks n) (λ _ _. 0) e.walking h f

    pub one_gathered : i < k → k ≤ 16 → length gs₀ ≡ 17 → length ms₀ ≡ 384 → {m o : ℕ} {ms' : List ℕ} → ListRead s (at + 50) 24 (members_at ks n s at) (MembersStored start ms ms') m o
        → Gathered ks n s from k gs₀ ms₀ (i + 1) o (start + m) (set gs (i + 1) (start + m)) ms'
    unfolding members_at
    one_gathered h few l w {m} {o} {ms'} r =
        let before = e.list in
        let here : i + 1 ≡ length (starts_of before) = omega (arith, ends_length 0 before, e.walking.many) in
        let end : 0 + length (joined before) + length r.list ≡ start + m = omega (arith, e.counted, r.many) in
        record {
          list = before ++ (r.list ∷ []);
          walking = walk_steps (λ _. members_by ks n) (λ _ _. 0) e.walking h r.reached.found;
          starts =
              ap (λ (u : List ℕ). set u (i + 1) (start + m)) e.starts
              ∙ ap (λ (j : ℕ). set (written (starts_of before) gs₀) j (start + m)) here
              ∙ written_more (starts_of before) gs₀ (start + m) (omega arith)
              ∙ ap (λ (u : List ℕ). written (0 ∷ u) gs₀) (sym (ends_more 0 before r.list ∙ ap (λ (j : ℕ). ends_from 0 before ++ (j ∷ [])) end));
          members =
              r.stored.members
              ∙ ap (λ (u : List ℕ). sets u start r.list) e.members
              ∙ ap (λ (j : ℕ). sets (written (joined before) ms₀) j r.list) e.counted
              ∙ written_on (joined before) r.list ms₀ (omega (arith, e.counted, e.few, r.many, r.few))
              ∙ ap (λ (u : List ℕ). written u ms₀) (sym (joined-more before r.list));
          counted = omega (arith, ap length (joined-more before r.list), length-append (joined before) r.list);
          few = omega (arith, e.few, r.few);
          within = r.reached.inside;
          near = omega (arith, r.reached.near, e.near);
        }

    pub all_gathered : i ≤ k → k ≤ i → k ≤ 16 → length ms₀ ≡ 384 → ListRead s (from + 50 * k) 16 (goals_from ks n k s from) (GoalsStored gs ms) k at
    all_gathered l h few long = record {
      list = e.list;
      many = omega (arith, e.walking.many);
      few = few;
      reached = record { found = walk_ends (λ _. members_by ks n) (λ _ _. 0) e.walking h; inside = e.within; near = omega (arith, e.near) };
      stored = columns_stored e.list gs₀ ms₀ (omega (arith, e.walking.many)) (members_long long (omega arith)) e.starts e.members;
    }
