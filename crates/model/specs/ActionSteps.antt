-- the lists of a state, by rising action: a walk that goes by what is left of the map of actions
use Rattle.std.specs.Prelude.{◌≡◌, ◌≢◌, Bool, true, false, ℕ, zero, suc, ◌+◌, ◌*◌, ◌-◌, ◌/◌, ◌%◌, ◌^◌, ◌<◌, ◌≤◌, length, drop, replicate}
use Rattle.std.proofs.Common.{sym, ◌∙◌, arith, shr-shr}
use Rattle.std.proofs.Math.Path.{ap}
use mathlib.Core.List.{List, [], ◌∷◌, ◌++◌, append-nil, append_assoc}
use Rattle.std.proofs.Math.Decide.{dec_lt}
use borrow.Author.Tests.{eq-eqb, ne_eqb}
use Rattle.bits.specs.Bits.{bit}
use Rattle.encoding.specs.Parse.{Got, fault, got, part, times}
use Rattle.encoding.specs.Walk.{Reached, Walking, walk_begins, walk_steps, walk_stops, walk_ends}
use Rattle.model_files.specs.Actions.{ACTIONS}
use Rattle.model_files.specs.ReadModel.{list, next_list, lists}

abbrev pub next_action : ℕ → List ℕ → ℕ
next_action c l = suc c

-- the state begins at a place of a file; a is its map of actions, and its lists stand from another place on
module _ (s : List ℕ) (begin n a from : ℕ) where
  abbrev pub all_lists : Got (List (List ℕ))
  all_lists = lists begin n a ACTIONS (drop from s) from

  -- the lists of c actions are read, and they are ls; the bits of the others are left
  pub record Acting (c rest : ℕ) (ls : List (List ℕ)) (at : ℕ) : Type 0 where
    pub walking : Walking (next_list begin n a) next_action all_lists ACTIONS c ls c (drop at s) at
    pub left : rest ≡ a / 2 ^ c
    pub few : c ≤ ACTIONS
    pub inside : at ≤ length s
    pub near : at ≤ from + 65 * c

  pub acting_begins : from ≤ length s → Acting 0 a [] from
  unfolding lists
  acting_begins h = record {
    walking = walk_begins (next_list begin n a) next_action ACTIONS 0 (drop from s) from;
    left = omega arith;
    few = omega arith;
    inside = h;
    near = omega arith;
  }

  module _ {c rest : ℕ} {ls : List (List ℕ)} {at : ℕ} (A : Acting c rest ls at) where
    half : rest / 2 ≡ a / 2 ^ (c + 1)
    half = let e : rest / 2 ≡ a / 2 ^ c / 2 ^ 1 = ap (λ (x : ℕ). x / 2) A.left in e ∙ shr-shr a c 1

    stepped : c < ACTIONS → {l : List ℕ} {o : ℕ} → next_list begin n a c (drop at s) at ≡ got l (drop o s) o → o ≤ length s → o ≤ at + 65
        → Acting (c + 1) (rest / 2) (ls ++ (l ∷ [])) o
    stepped h e i k =
        let next : suc c ≡ c + 1 = omega arith in
        record {
          walking = rw next at (walk_steps (next_list begin n a) next_action A.walking h e);
          left = half;
          few = omega arith;
          inside = i;
          near = omega (arith, A.near);
        }

    -- the next list stands, or does not
    stands : rest % 2 ≡ 1 → bit a c ≡ true
    unfolding bit
    stands h = eq-eqb (a / 2 ^ c % 2) 1 (ap (λ (x : ℕ). x % 2) (sym A.left) ∙ h)

    stands_not : rest % 2 ≢ 1 → bit a c ≡ false
    unfolding bit
    stands_not h = ne_eqb (a / 2 ^ c % 2) 1 (λ e. h (ap (λ (x : ℕ). x % 2) A.left ∙ e))

    present : rest % 2 ≡ 1 → next_list begin n a c (drop at s) at ≡ list begin n (drop at s) at
    unfolding times
    present h = ap (λ (b : Bool). part [] b (list begin n) (drop at s) at) (stands h)

    absent : rest % 2 ≢ 1 → next_list begin n a c (drop at s) at ≡ got [] (drop at s) at
    unfolding times
    absent h = ap (λ (b : Bool). part [] b (list begin n) (drop at s) at) (stands_not h)

    -- bits are left only of actions
    pub more_actions : a < 2 ^ ACTIONS → rest ≢ 0 → c < ACTIONS
    more_actions h z = go (dec_lt c ACTIONS)
      where
        go : Dec (c < ACTIONS) → c < ACTIONS
        go (yes l) = l
        go (no l) =
            let e : c ≡ 16 = omega (arith, A.few) in
            let none : rest ≡ a / 2 ^ 16 = A.left ∙ ap (λ (k : ℕ). a / 2 ^ k) e in
            absurd (z (omega arith))

    pub acting_more : c < ACTIONS → rest % 2 ≡ 1 → {l : List ℕ} {o : ℕ} → Reached s (at + 65) (list begin n (drop at s) at) l o
        → Acting (c + 1) (rest / 2) (ls ++ (l ∷ [])) o
    acting_more h b w = stepped h (present b ∙ w.found) w.inside w.near

    pub acting_skips : c < ACTIONS → rest % 2 ≢ 1 → Acting (c + 1) (rest / 2) (ls ++ ([] ∷ [])) at
    acting_skips h b = stepped h (absent b) A.inside (omega arith)

    pub acting_stops : c < ACTIONS → rest % 2 ≡ 1 → {k q : ℕ} → list begin n (drop at s) at ≡ fault k q → all_lists ≡ fault k q
    acting_stops h b e = walk_stops (next_list begin n a) next_action A.walking h (present b ∙ e)

  -- where no bit is left, the lists of the other actions are empty
  rest_empty : (k : ℕ) {c : ℕ} {ls : List (List ℕ)} {at : ℕ} → c + k ≡ ACTIONS → Acting c 0 ls at → Acting ACTIONS 0 (ls ++ replicate k []) at
  rest_empty zero {c} {ls} {at} e A =
      let whole : c ≡ ACTIONS = omega arith in
      rw (whole, sym (append-nil ls)) at A
  rest_empty (suc k) {c} {ls} {at} e A =
      let skipped = rest_empty k (omega arith) (acting_skips A (omega arith) (λ (z : 0 % 2 ≡ 1). omega arith)) in
      rw (append_assoc ls ([] ∷ []) (replicate k [])) at skipped

  pub acting_ends : {c rest : ℕ} {ls : List (List ℕ)} {at : ℕ} → Acting c rest ls at → rest ≡ 0
      → Reached s (from + 1040) all_lists (ls ++ replicate (ACTIONS - c) []) at
  acting_ends {c} {rest} {ls} {at} A z =
      let none : Acting c 0 ls at = rw z at A in
      let E = rest_empty (ACTIONS - c) (omega (arith, A.few)) none in
      record {
        found = walk_ends (next_list begin n a) next_action E.walking (omega arith);
        inside = E.inside;
        near = omega (arith, E.near);
      }
