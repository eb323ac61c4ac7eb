-- a walk over a good model file: no step finds a fault, and what was read in the end are the file's states
use Rattle.std.specs.Prelude.{◌≡◌, refl, ◌≢◌, List, [], ◌∷◌, ◌++◌, ℕ, suc, ◌+◌, ◌-◌, ◌%◌, ◌<◌, ◌≤◌, length, get_or, take, drop, replicate}
use Rattle.std.proofs.Common.{sym, ap, ◌∙◌, arith, length-drop, take-suc, get_or-drop, drop-drop}
use Rattle.std.proofs.Math.Decide.{dec_lt}
use Rattle.encoding.specs.Encode.{Counts}
use Rattle.encoding.specs.Parse.{Got, fault, got, times}
use Rattle.encoding.specs.GotLaws.{fault_not_got}
use Rattle.encoding.specs.Walk.{Reached}
use Rattle.model_files.specs.Actions.{ACTIONS}
use Rattle.model_files.specs.ModelFile.{Form, State}
use Rattle.model_files.specs.ReadModel.{header, list, lists, made, state}
use Rattle.model.specs.HeaderSteps.{HeaderRead}
use Rattle.model.specs.ListSteps.{list_cut, list_zero, list_counted}
use Rattle.model.specs.ActionSteps.{Acting, acting_stops, acting_ends}
use Rattle.model.specs.FileSteps.{state_stops, state_lists_stop, state_lists}
use Rattle.model.specs.SuccessorRun.{Run, run}
use Rattle.model.specs.Rows.{row_of, row_rest}

-- something is got
abbrev pub There : {A : Type 0} → Got A → Type 0
There {A} g = (x : A) × (r : List ℕ) × (o : ℕ) × (g ≡ got x r o)

pub there : {A : Type 0} (g : Got A) → ((k q : ℕ) → g ≡ fault k q → ⊥) → There g
there (fault k q) n = absurd (n k q refl)
there (got x r o) n = (x, r, o, refl)

not_fault : {A : Type 0} {g : Got A} {k q : ℕ} → There g → g ≡ fault k q → ⊥
not_fault (x, r, o, e) h = fault_not_got (sym h ∙ e)

-- a state's header is there
abbrev pub HeaderThere : Form → List ℕ → ℕ → Type 0
HeaderThere f s at = There (header f (drop at s) at)

-- a state is there, in a model of as many states as the file says
pub record StateThere (f : Form) (s : List ℕ) (at : ℕ) : Type 0 where
  pub size : Counts 1 64 (get_or s 4 0)
  pub got_it : There (state f (get_or s 4 0) (drop at s) at)

-- k successors stand at a place
pub record SuccessorsAt (s : List ℕ) (at k : ℕ) : Type 0 where
  pub room : at + k ≤ length s
  pub below : (j : ℕ) → j < k → get_or s (at + j) 0 < 64

abbrev pub successors_at : List ℕ → ℕ → ℕ → List ℕ
successors_at s at k = take k (drop at s)

pub successors_more : (s : List ℕ) (at i : ℕ) → at + i < length s → successors_at s at i ++ (get_or s (at + i) 0 ∷ []) ≡ successors_at s at (i + 1)
successors_more s at i h =
    let e : suc i ≡ i + 1 = omega arith in
    ap (λ (u : ℕ). successors_at s at i ++ (u ∷ [])) (sym (get_or-drop at s i 0))
    ∙ sym (take-suc (drop at s) i 0 (omega (arith, length-drop at s)))
    ∙ ap (successors_at s at) e

-- a list of a state that begins at a place: its count, and so many successors
pub record ListAt (s : List ℕ) (begin n at : ℕ) : Type 0 where
  pub here : at < length s
  pub successors_there : SuccessorsAt s (at + 1) (get_or s at 0)
  pub read : Reached s (at + 65) (list begin n (drop at s) at) (successors_at s (at + 1) (get_or s at 0)) (at + 1 + get_or s at 0)

module _ (s : List ℕ) (begin n at : ℕ) (c : Counts 1 64 n) (inside : at ≤ length s) (t : There (list begin n (drop at s) at)) where
  counts_here : at < length s
  counts_here = go (dec_lt at (length s))
    where
      go : Dec (at < length s) → at < length s
      go (yes h) = h
      go (no h) = absurd (not_fault t (list_cut begin n s at inside (omega arith)))

  not-zero : get_or s at 0 ≢ 0
  not-zero z = not_fault t (list_zero begin n s at counts_here z)

  abbrev k : ℕ
  k = get_or s at 0

  whole_run : Run n 0 k (drop (at + 1) s) (at + 1) t.0 t.1 t.2
  unfolding times
  whole_run = run n k 0 (drop (at + 1) s) (at + 1) (sym (list_counted begin n s at counts_here not-zero) ∙ t.3)

  pub list_at : ListAt s begin n at
  list_at =
      let R = whole_run in
      let left : t.1 ≡ drop (at + 1 + k) s = R.left ∙ drop-drop k (at + 1) s in
      let taken = R.taken in
      let place = R.place in
      record {
        here = counts_here;
        successors_there = record {
          room = omega (arith, R.room, length-drop (at + 1) s, counts_here);
          below = λ j l. omega (arith, R.below j l, get_or-drop (at + 1) s j 0, c);
        };
        read = record {
          found = rw (taken, left, place) at t.3;
          inside = omega (arith, R.room, length-drop (at + 1) s, counts_here);
          near = omega (arith, R.few (omega arith), c);
        };
      }

-- a state was read: its mask, the place after it, and its row
pub record StatePut (f : Form) (s : List ℕ) (at mask next : ℕ) (row : List ℕ) : Type 0 where
  pub read : State
  pub reached : Reached s (at + 1047) (state f (get_or s 4 0) (drop at s) at) read next
  pub masked : mask ≡ read.mask
  pub marked : row ≡ row_of read.lists

-- a state that is there
module _ (f : Form) (s : List ℕ) (at : ℕ) (T : StateThere f s at) where
  abbrev size : ℕ
  size = get_or s 4 0

  pub header_there : HeaderThere f s at
  header_there = there (header f (drop at s) at) (λ k q e. not_fault T.got_it (state_stops f size s at e))

  module _ {x a o : ℕ} (w : HeaderRead f s at x a o) where
    lists_there : There (lists at size a ACTIONS (drop o s) o)
    lists_there = there (lists at size a ACTIONS (drop o s) o) (λ k q e. not_fault T.got_it (state_lists_stop f size s at w.1.found e))

    module _ {c rest : ℕ} {ls : List (List ℕ)} {next : ℕ} (A : Acting s at size a o c rest ls next) where
      pub next_list : c < ACTIONS → rest % 2 ≡ 1 → ListAt s at size next
      next_list h b =
          list_at s at size next T.size A.inside (there (list at size (drop next s) next) (λ k q e. not_fault lists_there (acting_stops s at size a o A h b e)))

      pub state_put : rest ≡ 0 → {row : List ℕ} → row ≡ row_of ls → StatePut f s at x next row
      state_put z e =
          let E = acting_ends s at size a o A z in
          record {
            read = made (((w.0, x), a), ls ++ replicate (ACTIONS - c) []);
            reached = record { found = state_lists f size s at w.1.found E.found; inside = E.inside; near = omega (arith, E.near, w.1.near) };
            masked = refl;
            marked = e ∙ sym (row_rest ls (ACTIONS - c));
          }
