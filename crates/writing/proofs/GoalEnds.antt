-- the goals that a claim's records make are read to where the walk over them ends
use Rattle.std.specs.Prelude.{◌≡◌, Bool, take, drop}
use Rattle.std.proofs.Math.Path.{refl, ap}
use Rattle.std.proofs.Common.{sym, ◌∙◌, arith, eqb-true}
use mathlib.Core.List.{List, [], ◌∷◌, ◌++◌, append_assoc}
use Rattle.std.proofs.Math.Bool.{true, false}
use Prim.Native.Nat.{ℕ, zero, suc, ◌+◌, ◌≤◌}
use Rattle.std.proofs.Math.ListN.{length, length-drop}
use Rattle.formula.specs.Table.{Table}
use Rattle.formula.specs.Spelled.{Spelled, records_of}
use Rattle.formula.specs.Claim.{Form, clm1, clm2}
use Rattle.formula.specs.Members.{is_formula}
use Rattle.encoding.specs.Encode.{encode_two, encode_all}
use Rattle.encoding.specs.Parse.{Got, pick, bind, guard, two, count, in_range, fits_from, times}
use Rattle.claim_files.specs.ClaimFile.{encode_goal_count}
use Rattle.claim_files.specs.ReadClaim.{early, members, goal_count, goals}
use Rattle.writing.specs.RecordBytes.{clipped, member_bytes, goal_bytes, split}
use Rattle.writing.specs.Goals.{total, may_have, goals_fit, goals_fit_lem, split_count, first_there}
use Rattle.writing.specs.Ends.{End, next, stop, go_on, cut_end, walk, got_by, Meets, times_walk}
use Rattle.writing.specs.FieldEnds.{count_meets, map_same, rising_met}
use Rattle.writing.specs.GoalEnds.{goal_count_end, goal_number, goals_end, listed_end, listed_past, lists_end, members_end}

number_same : (f : Form) (k : ℕ) → may_have f k ≡ true → goal_number f k ≡ k
number_same clm1 k h = sym (eqb-true k 1 h)
number_same clm2 k h = refl

goal_count_read : (f : Form) (k : ℕ) (s : List ℕ) (at : ℕ) → goal_count f (encode_goal_count f (clipped k) ++ s) at ≡ got_by (goal_number f k) s (goal_count_end f k at)
goal_count_read clm1 k s at = refl
goal_count_read clm2 k s at = count_meets early 0 16 72 (omega arith) k s at

-- members are judged by the records of what was spelled
module _ (ss : List Spelled) (es : Table) (same : records_of ss ≡ es) where
  -- a goal by itself
  abbrev goal_end : ℕ → List ℕ → ℕ → End
  goal_end c ms at = listed_end es (length ms) ms at

  members_read : (ms rest : List ℕ) (at : ℕ) → members ss (member_bytes ms ++ rest) at ≡ got_by ms rest (goal_end 0 ms at)
  unfolding members walk times
  members_read ms rest at =
      ap (λ (t : Table). bind (count 1 24 12 (two early) (member_bytes ms ++ rest) at) (then_members t)) same
      ∙ ap (λ (g : Got ℕ). bind g (then_members es)) (count_meets early 1 24 12 (omega arith) (length ms) (encode_all encode_two ms ++ rest) at)
      ∙ go (in_range 1 24 (length ms))
    where
      then_members : Table → ℕ → List ℕ → ℕ → Got (List ℕ)
      then_members t n r o = times (λ c. guard (fits_from (is_formula t) c) 14 (two early)) (λ _ x. suc x) n 0 r o

      go : (b : Bool) → bind (got_by (length ms) (encode_all encode_two ms ++ rest) (pick b (next (at + 2)) (stop 12 at))) (then_members es)
          ≡ got_by ms rest (go_on (pick b (next (at + 2)) (stop 12 at)) (λ o. members_end es ms o))
      go false = refl
      go true = rising_met early (is_formula es) 14 ms rest (at + 2)

  goal_meets : (c : ℕ) (ms : List ℕ) → Meets (members ss) member_bytes (λ (m : List ℕ). m) (goal_end c) ms
  goal_meets c ms = record { reads = members_read ms; past = λ at o h. (listed_past es (length ms) ms at o h).1 }

  -- the walk over the goals that the counts cut is the walk over the counts
  lists_walk : (gs ms : List ℕ) (at : ℕ) → total gs ≤ length ms → walk goal_end (λ _ _. 0) 0 (split gs ms) at ≡ lists_end es gs ms at
  unfolding walk lists_end split total
  lists_walk [] ms at fit = refl
  lists_walk (k ∷ gs) ms at fit =
      rw (first_there k gs ms fit) (go (listed_end es k (take k ms) at) (λ o. lists_walk gs (drop k ms) o (omega (arith, length-drop k ms))))
    where
      go : (e : End) → ((o : ℕ) → walk goal_end (λ _ _. 0) 0 (split gs (drop k ms)) o ≡ lists_end es gs (drop k ms) o)
          → go_on e (λ o. walk goal_end (λ _ _. 0) 0 (split gs (drop k ms)) o) ≡ go_on e (λ o. lists_end es gs (drop k ms) o)
      go (next o) h = h o
      go (stop n q) h = refl

  then_lists : ℕ → List ℕ → ℕ → Got (List (List ℕ))
  unfolding times members
  then_lists n r o = times (λ _. members ss) (λ _ _. 0) n 0 r o

  lists_read : (gs ms rest : List ℕ) (at : ℕ) → total gs ≤ length ms
      → then_lists (length (split gs ms)) (encode_all member_bytes (split gs ms) ++ rest) at ≡ got_by (split gs ms) rest (lists_end es gs ms at)
  unfolding then_lists walk
  lists_read gs ms rest at fit =
      times_walk (λ _. members ss) (λ _ _. 0) member_bytes (λ (m : List ℕ). m) goal_end (λ _ _. 0) (λ c x. refl) goal_meets (split gs ms) 0 rest at
      ∙ rw (map_same (split gs ms), lists_walk gs ms at fit) refl

  pub goals_read : (f : Form) (gs ms rest : List ℕ) (at : ℕ) → goals_fit f gs ms ≡ true
      → goals f ss (goal_bytes f (split gs ms) ++ rest) at ≡ got_by (split gs ms) rest (goals_end f es gs ms at)
  unfolding goals then_lists lists_end
  goals_read f gs ms rest at fit =
      let (may, sum) = goals_fit_lem f gs ms fit in
      ap (λ (s : List ℕ). bind (goal_count f s at) then_lists) (append_assoc (encode_goal_count f (clipped (length (split gs ms)))) (encode_all member_bytes (split gs ms)) rest)
      ∙ ap (λ (g : Got ℕ). bind g then_lists) (goal_count_read f (length (split gs ms)) (encode_all member_bytes (split gs ms) ++ rest) at)
      ∙ rw (fit, ← (split_count gs ms)) (go (number_same f (length (split gs ms)) (rw (split_count gs ms) may)) (omega arith) (goal_count_end f (length (split gs ms)) at))
    where
      go : goal_number f (length (split gs ms)) ≡ length (split gs ms) → total gs ≤ length ms → (e : End)
          → bind (got_by (goal_number f (length (split gs ms))) (encode_all member_bytes (split gs ms) ++ rest) e) then_lists
          ≡ got_by (split gs ms) rest (go_on e (λ o. lists_end es gs ms o))
      go number sum (stop n q) = refl
      go number sum (next o) = ap (λ (n : ℕ). then_lists n (encode_all member_bytes (split gs ms) ++ rest) o) number ∙ lists_read gs ms rest o sum

  -- a file that stops after the goal count ends early, or is whole, where there is no goal
  pub goals_cut : (f : Form) (k at : ℕ) → goals f ss (encode_goal_count f (clipped k)) at ≡ got_by [] [] (go_on (goal_count_end f k at) (λ o. cut_end early (goal_number f k) o))
  unfolding goals then_lists
  goals_cut clm1 k at = refl
  goals_cut clm2 k at = ap (λ (g : Got ℕ). bind g then_lists) (goal_count_read clm2 k [] at) ∙ go k (in_range 0 16 k)
    where
      go : (k : ℕ) (b : Bool)
          → bind (got_by k [] (pick b (next (at + 2)) (stop 72 at))) then_lists ≡ got_by [] [] (go_on (pick b (next (at + 2)) (stop 72 at)) (λ o. cut_end early k o))
      go k false = refl
      go zero true = refl
      go (suc k) true = refl
