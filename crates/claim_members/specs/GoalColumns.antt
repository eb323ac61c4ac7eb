-- the goals of a claim in plain lists: their members one after the other, and where those of each start
use Rattle.std.specs.Prelude.{◌≡◌, refl, ℕ, zero, suc, ◌+◌, ◌-◌, ◌<◌, ◌≤◌, length, get_or, drop}
use Rattle.std.proofs.Math.Path.{sym, ap}
use Rattle.std.proofs.Common.{◌∙◌, le_of_suc-le-suc, add-one, arith, length-append, get_or-append-add}
use mathlib.Core.List.{List, [], ◌∷◌, ◌++◌, append_assoc, append-nil}
use Rattle.std.proofs.Math.Seq.{take-append_seam, drop-append_seam, get_or-append_seam}
use Rattle.verdict.specs.Lists.{values_from, written}
use Rattle.formula.specs.PlainNodes.{codes_at_lem}
use Rattle.formula.specs.Held.{goals_of, GoalsHeld}

unfoldable pub joined : List (List ℕ) → List ℕ
joined [] = []
joined (g ∷ l) = g ++ joined l

-- where each goal ends, if the first starts at k
unfoldable pub ends_from : ℕ → List (List ℕ) → List ℕ
ends_from k [] = []
ends_from k (g ∷ l) = (k + length g) ∷ ends_from (k + length g) l

-- the first starts at 0, and each other where the one before ends
abbrev pub starts_of : List (List ℕ) → List ℕ
starts_of l = 0 ∷ ends_from 0 l

-- one goal more
pub joined-more : (l : List (List ℕ)) (g : List ℕ) → joined (l ++ (g ∷ [])) ≡ joined l ++ g
unfolding joined
joined-more [] g = append-nil g
joined-more (h ∷ l) g = ap (λ (s : List ℕ). h ++ s) (joined-more l g) ∙ sym (append_assoc h (joined l) g)

pub ends_more : (k : ℕ) (l : List (List ℕ)) (g : List ℕ) → ends_from k (l ++ (g ∷ [])) ≡ ends_from k l ++ ((k + length (joined l) + length g) ∷ [])
unfolding ends_from joined
ends_more k [] g = ap (λ (n : ℕ). n ∷ []) {x = k + length g} {y = k + 0 + length g} (omega arith)
ends_more k (h ∷ l) g =
    let e : k + length h + length (joined l) + length g ≡ k + length (h ++ joined l) + length g = omega (arith, length-append h (joined l)) in
    ap (λ (s : List ℕ). (k + length h) ∷ s) (ends_more (k + length h) l g ∙ ap (λ (n : ℕ). ends_from (k + length h) l ++ (n ∷ [])) e)

pub ends_length : (k : ℕ) (l : List (List ℕ)) → length (ends_from k l) ≡ length l
unfolding ends_from
ends_length k [] = refl
ends_length k (g ∷ l) = ap suc (ends_length (k + length g) l)

-- the starts of goals whose first stands after these members, and what follows them
abbrev starts_after : List ℕ → List (List ℕ) → List ℕ → List ℕ
starts_after q l gs = (length q ∷ ends_from (length q) l) ++ gs

abbrev members_after : List ℕ → List (List ℕ) → List ℕ → List ℕ
members_after q l ms = q ++ (joined l ++ ms)

-- the goal that starts after these members
goal_stands : (p q g : List ℕ) (l : List (List ℕ)) (gs ms : List ℕ) → codes_at_lem (p ++ starts_after q (g ∷ l) gs) (members_after q (g ∷ l) ms) (length p) ≡ g
unfolding ends_from joined
goal_stands p q g l gs ms =
    let first : get_or (p ++ starts_after q (g ∷ l) gs) (length p) 0 ≡ length q = get_or-append_seam p (length q) _ 0 in
    let next : get_or (p ++ starts_after q (g ∷ l) gs) (length p + 1) 0 ≡ length q + length g = get_or-append-add p (starts_after q (g ∷ l) gs) 1 0 in
    let width : length q + length g - length q ≡ length g = omega arith in
    rw (first, next, width, drop-append_seam q ((g ++ joined l) ++ ms), append_assoc g (joined l) ms) (take-append_seam g (joined l ++ ms))

-- it belongs to those before, as the others see it
module _ (p q g : List ℕ) (l : List (List ℕ)) where
  starts_move : (gs : List ℕ) → p ++ starts_after q (g ∷ l) gs ≡ (p ++ (length q ∷ [])) ++ starts_after (q ++ g) l gs
  unfolding ends_from
  starts_move gs =
      ap (λ (n : ℕ). p ++ (length q ∷ ((n ∷ ends_from n l) ++ gs))) (sym (length-append q g)) ∙ sym (append_assoc p (length q ∷ []) (starts_after (q ++ g) l gs))

  members_move : (ms : List ℕ) → members_after q (g ∷ l) ms ≡ members_after (q ++ g) l ms
  unfolding joined
  members_move ms = ap (λ (s : List ℕ). q ++ s) (append_assoc g (joined l) ms) ∙ sym (append_assoc q g (joined l ++ ms))

-- reading the goals back from a start on
goals_stand : (p q : List ℕ) (l : List (List ℕ)) (gs ms : List ℕ) → values_from (codes_at_lem (p ++ starts_after q l gs) (members_after q l ms)) (length p) (length l) ≡ l
unfolding values_from
goals_stand p q [] gs ms = refl
goals_stand p q (g ∷ l) gs ms =
    let one : suc (length p) ≡ length (p ++ (length q ∷ [])) = omega (arith, length-append p (length q ∷ [])) in
    let rest = ap (λ (s : List ℕ). values_from (codes_at_lem s (members_after q (g ∷ l) ms)) (suc (length p)) (length l)) (starts_move p q g l gs)
    ∙ ap (λ (s : List ℕ). values_from (codes_at_lem ((p ++ (length q ∷ [])) ++ starts_after (q ++ g) l gs) s) (suc (length p)) (length l)) (members_move p q g l ms)
    ∙ ap (λ (n : ℕ). values_from (codes_at_lem ((p ++ (length q ∷ [])) ++ starts_after (q ++ g) l gs) (members_after (q ++ g) l ms)) n (length l)) one in
    rw (goal_stands p q g l gs ms) (ap (λ (t : List (List ℕ)). g ∷ t) (rest ∙ goals_stand (p ++ (length q ∷ [])) (q ++ g) l gs ms))

-- the starts rise up to the number of all members
starts_rise : (k : ℕ) (l : List (List ℕ)) (gs : List ℕ) (i : ℕ) → i < length l
    → (get_or ((k ∷ ends_from k l) ++ gs) i 0 ≤ get_or ((k ∷ ends_from k l) ++ gs) (suc i) 0) × (get_or ((k ∷ ends_from k l) ++ gs) (suc i) 0 ≤ k + length (joined l))
unfolding ends_from joined
starts_rise k [] gs i h = absurd (omega arith)
starts_rise k (g ∷ l) gs zero h = (omega arith, omega (arith, length-append g (joined l)))
starts_rise k (g ∷ l) gs (suc i) h =
    let (a, b) = starts_rise (k + length g) l gs i (le_of_suc-le-suc h) in
    (a, omega (arith, length-append g (joined l)))

-- the lists hold these goals
pub record GoalsStored (gs ms : List ℕ) (l : List (List ℕ)) : Type 0 where
  pub same : goals_of gs ms (length l) ≡ l
  pub held : GoalsHeld gs ms (length l)

-- so do lists over which the starts and the members are written
module _ (l : List (List ℕ)) (gs₀ ms₀ : List ℕ) where
  read_back : goals_of (written (starts_of l) gs₀) (written (joined l) ms₀) (length l) ≡ l
  unfolding goals_of
  read_back = goals_stand [] [] l (drop (length (starts_of l)) gs₀) (drop (length (joined l)) ms₀)

  held_there : length l ≤ 16 → length (written (joined l) ms₀) ≡ 384 → GoalsHeld (written (starts_of l) gs₀) (written (joined l) ms₀) (length l)
  held_there few room = record {
    few = few;
    room = room;
    starts = omega (arith, length-append (starts_of l) (drop (length (starts_of l)) gs₀), ends_length 0 l);
    placed = λ i h. let (a, b) = starts_rise 0 l (drop (length (starts_of l)) gs₀) i h in
        rw (add-one i) (a, omega (arith, length-append (joined l) (drop (length (joined l)) ms₀)));
  }

  pub columns_stored : {gs ms : List ℕ} → length l ≤ 16 → length ms ≡ 384 → gs ≡ written (starts_of l) gs₀ → ms ≡ written (joined l) ms₀ → GoalsStored gs ms l
  columns_stored few room e i = rw (e, i) (record { same = read_back; held = held_there few (rw i at room) })
