-- a state and the whole file at a place of a file that is indexed: what the program's steps find is what the parsers find there
use Rattle.std.specs.Prelude.{◌≡◌, Bool, true, false, length, get_or, drop, Ok, Err}
use Rattle.std.proofs.Math.Path.{refl, ap}
use Rattle.std.proofs.Common.{sym, ◌∙◌, arith}
use mathlib.Core.List.{List}
use Prim.Native.Nat.{ℕ, ◌+◌, ◌<◌, ◌≤◌}
use Rattle.encoding.specs.Parse.{Got, fault, got, bind, byte, times, in_range}
use Rattle.encoding.specs.File.{refused, good, ending}
use Rattle.encoding.specs.Places.{byte_at, byte_end}
use Rattle.encoding.specs.Opening.{opens, begins_tells}
use Rattle.encoding.specs.Encode.{Counts}
use Rattle.encoding.specs.ListLaws.{range_tells}
use Rattle.encoding.specs.Walk.{Reached, guard_passes, guard_fails, guard_cut, file_opens, file_closed, bytes_follow, none_follow}
use Rattle.model_files.specs.Actions.{ACTIONS}
use Rattle.model_files.specs.ModelFile.{Form, mdl1, mdl2, State, opening}
use Rattle.model_files.specs.Header.{Head, Begun}
use Rattle.model_files.specs.ReadModel.{early, header, lists, begun, made, state, state_count, states, body, read_form, form_by, read_model}
use Rattle.model.specs.ListSteps.{Step, Finds}

-- n states after the opening and the state count
unfoldable pub states_from : Form → ℕ → List ℕ → Got (List State)
unfolding times
states_from f n s = times (λ _. state f n) (λ _ _. 0) n 0 (drop 5 s) 5

module _ (f : Form) (n : ℕ) (s : List ℕ) (at : ℕ) where
  then_lists : Got Head → Got State
  then_lists g = bind (bind g (λ h r o. bind (lists at n h.1 ACTIONS r o) (λ l t z. got (h, l) t z))) (λ w t z. got (made w) t z)

  state_by : state f n (drop at s) at ≡ then_lists (header f (drop at s) at)
  unfolding state begun then_lists
  state_by = refl

  pub state_stops : {k q : ℕ} → header f (drop at s) at ≡ fault k q → state f n (drop at s) at ≡ fault k q
  unfolding then_lists
  state_stops e = state_by ∙ ap then_lists e

  -- after its header a state is its lists
  module _ {h : Head} {r : List ℕ} {o : ℕ} (e : header f (drop at s) at ≡ got h r o) where
    abbrev with_lists : Got (List (List ℕ)) → Got State
    with_lists g = bind (bind {B = Begun} g (λ l t z. got (h, l) t z)) (λ w t z. got (made w) t z)

    pub state_lists_stop : {k q : ℕ} → lists at n h.1 ACTIONS r o ≡ fault k q → state f n (drop at s) at ≡ fault k q
    unfolding then_lists
    state_lists_stop i = state_by ∙ ap then_lists e ∙ ap with_lists i

    pub state_lists : {ls : List (List ℕ)} {t : List ℕ} {z : ℕ} → lists at n h.1 ACTIONS r o ≡ got ls t z → state f n (drop at s) at ≡ got (made (h, ls)) t z
    unfolding then_lists
    state_lists i = state_by ∙ ap then_lists e ∙ ap with_lists i

  pub finds_state : {h : Head} {o : ℕ} → Reached s (at + 7) (header f (drop at s) at) h o
      → (r : Step) → Finds s (o + 1040) (lists at n h.1 ACTIONS (drop o s) o) r → Finds s (at + 1047) (state f n (drop at s) at) r
  finds_state w (Ok z) (l, i) = (_, record { found = state_lists w.found i.found; inside = i.inside; near = omega (arith, i.near, w.near) })
  finds_state w (Err r) e = state_lists_stop w.found e

-- a file of one form
module _ (f : Form) (s : List ℕ) (begins : opens (opening f) s ≡ true) where
  abbrev count : ℕ
  count = get_or s 4 0

  letters : (g : Form) → opens (opening g) s ≡ true → (4 ≤ length s) × (read_form g s ≡ ending early (body g (drop 4 s) 4))
  unfolding read_form
  letters mdl1 h = (((begins_tells (opening mdl1) s).says h).long, file_opens (opening mdl1) 60 early (body mdl1) s h)
  letters mdl2 h = (((begins_tells (opening mdl2) s).says h).long, file_opens (opening mdl2) 60 early (body mdl2) s h)

  -- the states after their count
  abbrev then_states : Got ℕ → Got (List State)
  unfolding times
  then_states g = bind (bind g (λ n r o. bind (states f n r o) (λ l t z. got (n, l) t z))) (λ (w : ℕ × List State) r o. got w.1 r o)

  by_count : {g : Got ℕ} → state_count (drop 4 s) 4 ≡ g → read_form f s ≡ ending early (then_states g)
  unfolding body times
  by_count e = (letters f begins).1 ∙ ap (λ (g : Got ℕ). ending early (then_states g)) e

  pub count_cut : length s < 5 → read_form f s ≡ refused early (length s)
  unfolding times
  count_cut k =
      let long = (letters f begins).0 in
      by_count (guard_cut (in_range 1 64) 62 (byte early) (drop 4 s) 4 (byte_end early s 4 (omega arith)))

  module _ (inside : 4 < length s) where
    pub count_unfit : in_range 1 64 count ≡ false → read_form f s ≡ refused 62 4
    unfolding times
    count_unfit n = by_count (guard_fails (in_range 1 64) 62 (byte early) (drop 4 s) 4 (byte_at early s 4 inside) n)

    module _ (fits : Counts 1 64 count) where
      pub counted : read_form f s ≡ ending early (states_from f count s)
      unfolding states_from times
      counted =
          by_count (guard_passes (in_range 1 64) 62 (byte early) (drop 4 s) 4 (byte_at early s 4 inside) ((range_tells 1 64 count).holds fits))
          ∙ ap (ending early) (again (states_from f count s))
        where
          again : (g : Got (List State)) → bind (bind g (λ l t z. got (count, l) t z)) (λ (w : ℕ × List State) r o. got w.1 r o) ≡ g
          again (fault n q) = refl
          again (got l t z) = refl

      pub model_stops : {n q : ℕ} → states_from f count s ≡ fault n q → read_form f s ≡ refused n q
      model_stops e = counted ∙ ap (ending early) e

      module _ {limit o : ℕ} {l : List State} (w : Reached s limit (states_from f count s) l o) where
        pub model_follows : o < length s → read_form f s ≡ refused early o
        model_follows h = counted ∙ ap (ending early) w.found ∙ bytes_follow early s l o h

        pub model_ends : length s ≤ o → read_form f s ≡ good l
        model_ends h = counted ∙ ap (ending early) w.found ∙ none_follow early s l o h

-- by the test that the program makes
module _ (s : List ℕ) where
  pub read_by : {acts : Bool} → acts ≡ opens (opening mdl2) s → read_model s ≡ read_form (form_by acts) s
  unfolding read_model
  read_by e = ap (λ (b : Bool). read_form (form_by b) s) (sym e)

  -- neither opening
  pub model_closed : opens (opening mdl2) s ≡ false → opens (opening mdl1) s ≡ false → read_model s ≡ refused 60 0
  unfolding read_form
  model_closed h k = read_by (sym h) ∙ file_closed (opening mdl1) 60 early (body mdl1) s k
