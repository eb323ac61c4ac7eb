-- goals stored one after the other, and what is left of them to be stored; the goal count and the roots, which the form for one goal does not write
use Rattle.std.specs.Prelude.{◌≡◌, List, [], ◌++◌, Bool, true, false, eqb, length, take, drop}
use Rattle.std.proofs.Math.Path.{refl, ap}
use Rattle.std.proofs.Common.{◌∙◌, eqb-true, length-drop, drop_of_length-le, drop-cons, drop-drop, length-take-le}
use Prim.Native.Nat.{ℕ, suc, ◌+◌, ◌<◌, ◌≤◌}
use native.Mathlib.Omega.{arith}
use Rattle.std.proofs.lemmas.Bool.{eqb-false}
use Rattle.std.proofs.Math.ListN.{get_or}
use Rattle.std.proofs.Math.Seq.{take-length}
use Rattle.formula.specs.Claim.{clm2, form_number}
use Rattle.encoding.specs.Encode.{encode_two, encode_field, encode_all}
use Rattle.claim_files.specs.ClaimFile.{encode_members, encode_goal_count}
use Rattle.formula.specs.NamedForm.{named_form, names_several, names_one}
use Rattle.writing.specs.RecordBytes.{split}
use Rattle.writing.specs.Goals.{total}
use Rattle.laying.specs.Laying.{numbers_left}

-- the counts of at most 16 goals, and members for all of them
pub record GoalsRoom (gs ms : List ℕ) : Type 0 where
  pub few : length gs ≤ 16
  pub held : total gs ≤ length ms

-- the goal of n members that begin at the start
abbrev pub goal_at : List ℕ → ℕ → ℕ → List ℕ
goal_at ms start n = take n (drop start ms)

-- their count, then they themselves
pub goal_parts : (ms : List ℕ) (start n : ℕ) → start + n ≤ length ms → encode_two n ++ numbers_left ms start n ≡ encode_members (goal_at ms start n)
goal_parts ms start n h = rw (length-take-le n (drop start ms) (omega (arith, length-drop start ms))) refl

module _ (gs ms : List ℕ) where
  -- the goals from the i-th on, whose members begin at the start
  abbrev pub goals_left : ℕ → ℕ → List ℕ
  goals_left i start = encode_all encode_members (split (drop i gs) (drop start ms))

  pub goals_step : (i start : ℕ) → i < length gs → goals_left i start ≡ encode_members (goal_at ms start (get_or gs i 0)) ++ goals_left (i + 1) (start + get_or gs i 0)
  unfolding encode_all split
  goals_step i start h =
      let j : suc i ≡ i + 1 = omega arith in
      rw (drop-cons gs i 0 h, ← j, ← (drop-drop (get_or gs i 0) start ms)) refl

  pub goals_end_lem : (i start : ℕ) → length gs ≤ i → goals_left i start ≡ []
  unfolding encode_all split
  goals_end_lem i start h = rw (drop_of_length-le gs h) refl

  -- members enough for the goals that are left
  abbrev pub MembersLeft : ℕ → ℕ → Type 0
  MembersLeft i start = start + total (drop i gs) ≤ length ms

  pub members_step : (i start : ℕ) → i < length gs → MembersLeft i start → (start + get_or gs i 0 ≤ length ms) × MembersLeft (i + 1) (start + get_or gs i 0)
  unfolding total
  members_step i start h left =
      let j : suc i ≡ i + 1 = omega arith in
      let all : total (drop i gs) ≡ get_or gs i 0 + total (drop (i + 1) gs) = ap total (drop-cons gs i 0 h) ∙ ap (λ (u : ℕ). get_or gs i 0 + total (drop u gs)) j in
      (omega arith, omega arith)

-- the two bytes of a field that stands in the form for several goals
pub goal_count : (n k : ℕ) → encode_field (eqb n (form_number clm2)) k ≡ encode_goal_count (named_form n) k
goal_count n k = go (eqb n (form_number clm2)) refl
  where
    go : (b : Bool) → eqb n (form_number clm2) ≡ b → encode_field b k ≡ encode_goal_count (named_form n) k
    go true e = rw (names_several (eqb-true n (form_number clm2) e)) refl
    go false e = rw (names_one (eqb-false n (form_number clm2) e)) refl

-- all the numbers of a list
pub numbers_all : (ns : List ℕ) → numbers_left ns 0 (length ns) ≡ encode_all encode_two ns
numbers_all ns = ap (encode_all encode_two) (take-length ns)
