-- an entry put into its place in a rising list, in one pass: the larger of two is carried on
use Rattle.std.specs.Prelude.{◌≡◌, refl, Bool, take, set}
use Rattle.std.proofs.Math.Path.{sym, ap}
use Rattle.std.proofs.Common.{ap₂, subst, ◌∙◌, arith, lt-ltb, le-ltb, drop_of_length-le, drop-cons, get_or-append-add, get_or-drop, get_or-take, length-take-le}
use Rattle.std.proofs.Math.Bool.{cond}
use mathlib.Core.List.{List, [], ◌∷◌, ◌++◌, append_assoc}
use Prim.Native.Nat.{ℕ, suc, ◌+◌, ◌<◌}
use Rattle.std.proofs.Math.ListN.{length, get_or, drop, length-append}
use Rattle.verdict.specs.Lists.{Rising, written}
use Rattle.verdict.specs.WrittenLaws.{written_more}
use Rattle.joining.specs.Goals.{enter}

-- what is below a rising list stands in front of it
enter_front : (x : ℕ) (l : List ℕ) → Rising (x ∷ l) → enter x l ≡ x ∷ l
unfolding enter
enter_front x [] r = refl
enter_front x (y ∷ l) r = rw (lt-ltb x y (r 0 (omega arith))) refl

-- of the list some are in their places, and x is still to enter what is left of it
pub record Entering (e : ℕ) (l left old : List ℕ) (i x : ℕ) (new : List ℕ) : Type 0 where
  pub done : List ℕ
  pub many : i ≡ length done
  pub whole : enter e l ≡ done ++ enter x left
  pub rising : Rising left
  pub stored : new ≡ written done old

module _ {e : ℕ} {l old : List ℕ} where
  pub entering_begins : Rising l → Entering e l l old 0 e old
  entering_begins r = record { done = []; many = refl; whole = refl; rising = r; stored = refl }

  module _ {y i x : ℕ} {left new : List ℕ} (s : Entering e l (y ∷ left) old i x new) where
    tail : Rising left
    tail k h = s.rising (suc k) (omega arith)

    -- the smaller takes the place, the larger goes on
    pub entering_swaps : i < length old → x < y → Entering e l left old (i + 1) y (set new i x)
    unfolding enter
    entering_swaps room h = record {
      done = s.done ++ (x ∷ []);
      many = omega (arith, s.many, length-append s.done (x ∷ []));
      whole =
          s.whole
          ∙ ap (λ (b : Bool). s.done ++ cond b (x ∷ y ∷ left) (y ∷ enter x left)) (lt-ltb x y h)
          ∙ ap (λ (m : List ℕ). s.done ++ (x ∷ m)) (sym (enter_front y left s.rising))
          ∙ sym (append_assoc s.done (x ∷ []) (enter y left));
      rising = tail;
      stored = rw (s.stored, s.many) (written_more s.done old x (omega (arith, s.many)));
    }

    pub entering_passes : get_or old i 0 ≡ y → i < length old → (x < y → ⊥) → Entering e l left old (i + 1) x new
    unfolding enter
    entering_passes here room h = record {
      done = s.done ++ (y ∷ []);
      many = omega (arith, s.many, length-append s.done (y ∷ []));
      whole =
          s.whole
          ∙ ap (λ (b : Bool). s.done ++ cond b (x ∷ y ∷ left) (y ∷ enter x left)) (le-ltb x y (omega arith))
          ∙ sym (append_assoc s.done (y ∷ []) (enter x left));
      rising = tail;
      stored = s.stored ∙ as_it_was;
    }
      where
        as_it_was : written s.done old ≡ written (s.done ++ (y ∷ [])) old
        as_it_was =
            let k : suc (length s.done) ≡ length (s.done ++ (y ∷ [])) = omega (arith, length-append s.done (y ∷ [])) in
            let same : get_or old (length s.done) 0 ≡ y = ap (λ (n : ℕ). get_or old n 0) (sym s.many) ∙ here in
            ap (λ (m : List ℕ). s.done ++ m) (drop-cons old (length s.done) 0 (omega (arith, s.many)) ∙ ap (λ (z : ℕ). z ∷ drop (suc (length s.done)) old) same)
            ∙ sym (append_assoc s.done (y ∷ []) (drop (suc (length s.done)) old))
            ∙ ap (λ (n : ℕ). (s.done ++ (y ∷ [])) ++ drop n old) k

  -- what is carried to the end stands last
  pub entering_ends : {left new : List ℕ} {i x : ℕ} → Entering e l left old i x new → left ≡ [] → i < length old → set new i x ≡ written (enter e l) old
  unfolding enter
  entering_ends {x = x} s n room =
      rw (s.stored, s.many) (written_more s.done old x (omega (arith, s.many)))
      ∙ ap (λ (m : List ℕ). written m old) (sym (s.whole ∙ ap (λ (m : List ℕ). s.done ++ enter x m) n))

-- a pass over the first n of an array, which rise
abbrev pub Passing : ℕ → ℕ → List ℕ → ℕ → ℕ → List ℕ → Type 0
Passing e n old i x new = Entering e (take n old) (drop i (take n old)) old i x new

module _ {e n : ℕ} {old : List ℕ} (room : n < length old) where
  -- what stands at the place reached is as it was
  unmoved : {i x : ℕ} {new : List ℕ} → Passing e n old i x new → get_or new i 0 ≡ get_or old i 0
  unmoved {i} s =
      let k : length s.done + 0 ≡ i = omega (arith, s.many) in
      ap (λ (l : List ℕ). get_or l i 0) s.stored
      ∙ rw (← k) (get_or-append-add s.done (drop (length s.done) old) 0 0 ∙ get_or-drop (length s.done) old 0 0)

  module _ {i x : ℕ} {new : List ℕ} (s : Passing e n old i x new) (more : i < n) where
    split : drop i (take n old) ≡ get_or new i 0 ∷ drop (i + 1) (take n old)
    split =
        let k : suc i ≡ i + 1 = omega arith in
        drop-cons (take n old) i 0 (omega (arith, length-take-le n old (omega arith)))
        ∙ ap₂ {C = List ℕ} (λ y m. y ∷ drop m (take n old)) (get_or-take n old i 0 more ∙ sym (unmoved s)) k

    there : Entering e (take n old) (get_or new i 0 ∷ drop (i + 1) (take n old)) old i x new
    there = subst (λ (l : List ℕ). Entering e (take n old) l old i x new) split s

    pub passing_swaps : x < get_or new i 0 → Passing e n old (i + 1) (get_or new i 0) (set new i x)
    passing_swaps h = entering_swaps there (omega arith) h

    pub passing_passes : (x < get_or new i 0 → ⊥) → Passing e n old (i + 1) x new
    passing_passes h = entering_passes there (sym (unmoved s)) (omega arith) h

  pub passing_ends : {i x : ℕ} {new : List ℕ} → Passing e n old i x new → i ≡ n → set new n x ≡ written (enter e (take n old)) old
  passing_ends {i} {x} {new} s h =
      let past : drop i (take n old) ≡ [] = drop_of_length-le (take n old) {i = i} (omega (arith, length-take-le n old (omega arith))) in
      ap (λ (k : ℕ). set new k x) (sym h) ∙ entering_ends s past (omega arith)
