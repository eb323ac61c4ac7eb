-- how long a model file can be
use Rattle.std.specs.Prelude.{◌≡◌, Bool, true, false, ℕ, suc, ◌+◌, ◌*◌, ◌≤◌, length, get_or}
use Rattle.std.proofs.Math.Path.{refl}
use Rattle.std.proofs.Common.{ap}
use mathlib.Core.List.{List, [], ◌∷◌, ◌++◌}
use native.Mathlib.Omega.{arith}
use Rattle.std.proofs.Math.ListN.{length-append}
use Rattle.verdict.specs.Lists.{Each, none, more}
use Rattle.encoding.specs.Encode.{encode_byte, encode_four, encode_part, encode_all, Counts}
use Rattle.encoding.specs.ChainLaws.{each_as}
use Rattle.model_files.specs.ModelFile.{Form, mdl1, mdl2, State, has_bits, has_list, action_map, encode_actions, encode_successors, encode_list, encode_state, FitList, FitState, FormFile, ModelFile}
use Rattle.model_files.specs.BegunExact.{few_successors}
use Rattle.model_files.specs.ModelExact.{StateIn, each_both, form_model}

all_short : {A : Type 0} (enc : A → List ℕ) (top : ℕ) {l : List A} → Each (λ x. length (enc x) ≤ top) l → length (encode_all enc l) ≤ length l * top
unfolding encode_all
all_short enc top none = omega arith
all_short enc top (more {x = x} {l = l} h e) = omega (arith, length-append (enc x) (encode_all enc l), all_short enc top e, h)

part_short : {A : Type 0} (b : Bool) (enc : A → List ℕ) (x : A) (top : ℕ) → length (enc x) ≤ top → length (encode_part b enc x) ≤ top
part_short true enc x top h = h
part_short false enc x top h = omega arith

each_of : {A : Type 0} {P : A → Type 0} → ((x : A) → P x) → (l : List A) → Each P l
each_of f [] = none
each_of f (x ∷ l) = more (f x) (each_of f l)

module _ (n : ℕ) (c : Counts 1 64 n) where
  list_short : {l : List ℕ} → FitList n l → length (encode_list l) ≤ 65
  list_short {l} h =
      part_short (has_list l) encode_successors l 65
      (omega (arith, all_short encode_byte 1 (each_of (λ (u : ℕ). omega arith) l), few_successors n c h, c))

  -- what stands before the lists
  before_lists : (f : Form) (s : State) (top : ℕ) → length (encode_actions f (action_map s.lists)) ≤ top
      → length (encode_state f s) ≤ 5 + top + length (encode_all encode_list s.lists)
  before_lists f s top h =
      let letters : List ℕ = encode_part (has_bits s.mask) encode_four s.mask in
      let acts : List ℕ = encode_part (has_bits (action_map s.lists)) (encode_actions f) (action_map s.lists) in
      let all : List ℕ = encode_all encode_list s.lists in
      omega (
        arith,
        length-append letters (acts ++ all),
        length-append acts all,
        part_short (has_bits s.mask) encode_four s.mask 4 (omega arith),
        part_short (has_bits (action_map s.lists)) (encode_actions f) (action_map s.lists) top h,
      )

  state_short : (s : State) → FitState n s → length (encode_state mdl2 s) ≤ 1047
  state_short s h =
      omega (arith, before_lists mdl2 s 2 (omega arith), all_short encode_list 65 (each_as (λ l k. list_short k) h.each), h.actions)

  -- MDL1 lists successors by action 0 alone
  none_after : (ls : List (List ℕ)) → ((i : ℕ) → get_or ls i [] ≡ []) → length (encode_all encode_list ls) ≡ 0
  unfolding encode_all
  none_after [] h = refl
  none_after (l ∷ ls) h = rw (h 0) (none_after ls (λ i. h (suc i)))

  one_list : (ls : List (List ℕ)) → Each (FitList n) ls → ((i : ℕ) → 1 ≤ i → get_or ls i [] ≡ []) → length (encode_all encode_list ls) ≤ 65
  unfolding encode_all
  one_list [] none h = omega arith
  one_list (l ∷ ls) (more k e) h = omega (arith, length-append (encode_list l) (encode_all encode_list ls), list_short k, none_after ls (λ i. h (suc i) (omega arith)))

  old_state_short : (s : State) → StateIn mdl1 n s → length (encode_state mdl1 s) ≤ 70
  old_state_short s (h, o) = omega (arith, before_lists mdl1 s 0 (omega arith), one_list s.lists h.each o)

-- 5 bytes, and 70 for each of 64 states
pub old_model_short : {bytes : List ℕ} {m : List State} → FormFile mdl1 bytes m → length bytes ≤ 4485
old_model_short {bytes} {m} k =
    let f = k.fits.fits in
    omega (
      arith,
      ap length k.encoded,
      all_short (encode_state mdl1) 70 (each_as (old_state_short (length m) f.count) (each_both f.each k.fits.holds)),
      f.count,
    )

new_model_short : {bytes : List ℕ} {m : List State} → FormFile mdl2 bytes m → length bytes ≤ 67013
new_model_short {bytes} {m} k =
    let f = k.fits.fits in
    omega (arith, ap length k.encoded, all_short (encode_state mdl2) 1047 (each_as (state_short (length m) f.count) f.each), f.count)

-- 5 bytes, and 1,047 for each of 64 states: no place is above this, and it can be above 65,535
pub model_short : {bytes : List ℕ} {m : List State} → ModelFile bytes m → length bytes ≤ 67013
model_short {bytes} {m} k = go k.form (form_model k)
  where
    go : (f : Form) → FormFile f bytes m → length bytes ≤ 67013
    go mdl1 h = omega (arith, old_model_short h)
    go mdl2 h = new_model_short h
