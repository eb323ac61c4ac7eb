-- a walk over the states of a good model file: each is there, and what was read in the end are the file's states
use Rattle.std.specs.Prelude.{◌≡◌, List, [], ◌∷◌, ◌++◌, Bool, true, false, ℕ, ◌+◌, ◌*◌, ◌<◌, ◌≤◌, length, get_or, drop}
use Rattle.std.proofs.Math.Path.{refl}
use Rattle.std.proofs.Common.{sym, ap, ◌∙◌}
use Rattle.std.proofs.Math.Decide.{dec_lt}
use native.Mathlib.Omega.{arith}
use Rattle.verdict.specs.VerdictLaws.{accepted_not_refused}
use Rattle.encoding.specs.Encode.{Counts}
use Rattle.encoding.specs.Parse.{Got, fault, got, in_range}
use Rattle.encoding.specs.File.{refused, good, ending}
use Rattle.encoding.specs.Outcome.{verdict_of}
use Rattle.encoding.specs.GotLaws.{fault_not_got, same_value}
use Rattle.encoding.specs.ListLaws.{range_tells}
use Rattle.encoding.specs.Opening.{opens}
use Rattle.encoding.specs.Sequence.{times_many}
use Rattle.encoding.specs.Walk.{Walking, walk_begins, walk_steps, walk_stops, walk_ends}
use Rattle.model_files.specs.ModelFile.{Form, mdl1, mdl2, State, opening}
use Rattle.model_files.specs.ReadModel.{early, state, read_form, form_by, form_of, read_model}
use Rattle.model_files.specs.Decoded.{GoodModel, states_of, good_states}
use Rattle.model.specs.FileSteps.{states_from, count_cut, count_unfit, counted, model_closed}
use Rattle.model.specs.Decoding.{there, StateThere, StatePut}

-- i states are read; they are m, and the next stands at a place
pub record Decoding (s : List ℕ) (i at : ℕ) (m : List State) : Type 0 where
  pub walking : Walking (λ _. state (form_of s) (get_or s 4 0)) (λ _ _. 0) (states_from (form_of s) (get_or s 4 0) s) (get_or s 4 0) i m 0 (drop at s) at
  pub inside : at ≤ length s
  pub near : at ≤ 5 + 1047 * i

module _ (s : List ℕ) (g : GoodModel s) where
  abbrev n : ℕ
  n = get_or s 4 0

  abbrev f : Form
  f = form_of s

  no_fault : {k q : ℕ} → read_form f s ≡ refused k q → ⊥
  unfolding read_model
  no_fault e = accepted_not_refused (sym (ap verdict_of e) ∙ g)

  begun : opens (opening f) s ≡ true
  begun = go (opens (opening mdl2) s) refl (opens (opening mdl1) s) refl
    where
      go : (b : Bool) → opens (opening mdl2) s ≡ b → (c : Bool) → opens (opening mdl1) s ≡ c → opens (opening (form_by b)) s ≡ true
      go true e c i = e
      go false e true i = i
      go false e false i = absurd (accepted_not_refused (sym (ap verdict_of (model_closed s e i)) ∙ g))

  pub good_long : 4 < length s
  good_long = go (dec_lt (length s) 5)
    where
      go : Dec (length s < 5) → 4 < length s
      go (yes h) = absurd (no_fault (count_cut f s begun h))
      go (no h) = omega arith

  pub good_counts : Counts 1 64 n
  good_counts = go (in_range 1 64 n) refl
    where
      go : (b : Bool) → in_range 1 64 n ≡ b → Counts 1 64 n
      go true e = (range_tells 1 64 n).says e
      go false e = absurd (no_fault (count_unfit f s begun good_long e))

  -- the whole file is read
  whole : (r : List ℕ) × (o : ℕ) × (states_from f n s ≡ got (states_of s) r o)
  unfolding read_model
  whole = go (states_from f n s) refl (sym (counted f s begun good_long good_counts) ∙ good_states s g)
    where
      no_good : {k q : ℕ} → refused k q ≡ good (states_of s) → ⊥
      no_good e = accepted_not_refused (ap verdict_of e)

      go : (h : Got (List State)) → states_from f n s ≡ h → ending early h ≡ good (states_of s) → (r : List ℕ) × (o : ℕ) × (h ≡ got (states_of s) r o)
      go (fault k q) e i = absurd (no_good i)
      go (got x [] o) e i = let same : x ≡ states_of s = cc in ([], o, ap (λ (l : List State). got l [] o) same)
      go (got x (y ∷ r) o) e i = absurd (no_good i)

  no_stop : {k q : ℕ} → states_from f n s ≡ fault k q → ⊥
  no_stop e = fault_not_got (sym e ∙ whole.2)

  pub good_many : length (states_of s) ≡ n
  unfolding states_from
  good_many = times_many (λ _. state f n) (λ _ _. 0) n 0 (drop 5 s) 5 whole.2

  pub decoding_begins : Decoding s 0 5 []
  unfolding states_from
  decoding_begins = record { walking = walk_begins (λ _. state f n) (λ _ _. 0) n 0 (drop 5 s) 5; inside = good_long; near = omega arith }

  module _ {i at : ℕ} {m : List State} (d : Decoding s i at m) where
    pub decoding_ends : n ≤ i → m ≡ states_of s
    decoding_ends h = same_value (sym (walk_ends (λ _. state f n) (λ _ _. 0) d.walking h) ∙ whole.2)

    module _ (h : i < n) where
      pub state_there : StateThere f s at
      state_there = record {
        size = good_counts;
        got_it = there (state f n (drop at s) at) (λ k q e. no_stop (walk_stops (λ _. state f n) (λ _ _. 0) d.walking h e));
      }

      pub decoding_steps : {mask next : ℕ} {row : List ℕ} (p : StatePut f s at mask next row) → Decoding s (i + 1) next (m ++ (p.read ∷ []))
      decoding_steps p = record {
        walking = walk_steps (λ _. state f n) (λ _ _. 0) d.walking h p.reached.found;
        inside = p.reached.inside;
        near = omega (arith, d.near, p.reached.near);
      }
