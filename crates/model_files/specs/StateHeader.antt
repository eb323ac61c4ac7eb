-- the header that belongs to a state: it fits, it is the only one that does, and it stands in front of the lists
use Rattle.std.specs.Prelude.{◌≡◌, refl, List, [], ◌++◌, Bool, true, false, not, ℕ, zero, suc, ◌<◌, ◌≤◌, ◌^◌, eqb, length, get_or}
use Rattle.std.proofs.Common.{sym, ap, ◌∙◌, append_assoc, arith, ne_eqb}
use Rattle.std.proofs.Math.Decide.{dec_lt}
use Rattle.std.proofs.Math.ListN.{get_or-eq_default}
use Rattle.verdict.specs.Tells.{Tells, not_tells, eqb_tells}
use Rattle.bits.specs.Bits.{bit, no_bit, one_bit}
use Rattle.encoding.specs.Encode.{encode_byte, encode_four, encode_part, encode_all}
use Rattle.model_files.specs.Actions.{ACTIONS, map_small, map_is, map_first}
use Rattle.model_files.specs.ModelFile.{Form, mdl1, mdl2, State, has_bits, has_list, map_byte, action_map, encode_actions, encode_list, encode_state, Holds}
use Rattle.model_files.specs.Header.{letters_stand, list_stands, Head, FitPart, NotZero, FitActions, FitHeader, Begun}
use Rattle.model_files.specs.ReadModel.{made}
use Rattle.model_files.specs.Begun.{encode_begun, FitBegun}
use Rattle.model_files.specs.BegunExact.{no_list}

-- a map says which parts stand, and nothing else
map_letters : (a b : Bool) → letters_stand (map_byte a b) ≡ a
map_letters true true = refl
map_letters true false = refl
map_letters false true = refl
map_letters false false = refl

map_list : (a b : Bool) → list_stands (map_byte a b) ≡ b
map_list true true = refl
map_list true false = refl
map_list false true = refl
map_list false false = refl

pub map_small_byte : (a b : Bool) → map_byte a b ≤ 3
map_small_byte true true = omega arith
map_small_byte true false = omega arith
map_small_byte false true = omega arith
map_small_byte false false = omega arith

-- bit 0 for the letters, bit 1 for the successors
pub map_bits : (m : ℕ) → m ≤ 3 → (letters_stand m ≡ bit m 0) × (list_stands m ≡ bit m 1)
unfolding bit
map_bits zero h = (refl, refl)
map_bits (suc zero) h = (refl, refl)
map_bits (suc (suc zero)) h = (refl, refl)
map_bits (suc (suc (suc zero))) h = (refl, refl)
map_bits (suc (suc (suc (suc m)))) h = absurd (omega arith)

map_back : (m : ℕ) → m ≤ 3 → map_byte (letters_stand m) (list_stands m) ≡ m
map_back zero h = refl
map_back (suc zero) h = refl
map_back (suc (suc zero)) h = refl
map_back (suc (suc (suc zero))) h = refl
map_back (suc (suc (suc (suc m)))) h = absurd (omega arith)

-- what is not zero stands, and what is zero does not
fits_filled : (P : Bool → ℕ → Type 0) (x : ℕ) → (x ≡ 0 → P false x) → ((x ≡ 0 → ⊥) → P true x) → P (has_bits x) x
fits_filled P x f g = go (eqb x 0) (eqb_tells x 0)
  where
    go : (b : Bool) → Tells b (x ≡ 0) → P (not b) x
    go true t = f (t.says refl)
    go false t = g (λ e. false_true (t.holds e))
      where
        false_true : false ≡ true → ⊥
        false_true e = let z : ◌≡◌ {A = ℕ} 0 1 = cc in omega arith

stands_filled : (stands : Bool) (x : ℕ) → (stands ≡ false → x ≡ 0) → NotZero stands x → has_bits x ≡ stands
stands_filled true x h f = (not_tells (eqb_tells x 0)).holds (f refl)
stands_filled false x h f = rw (h refl) refl

-- what does not stand is zero
part_zero : (bound : ℕ) (stands : Bool) (x : ℕ) → FitPart bound stands x → stands ≡ false → x ≡ 0
part_zero bound true x h e = absurd (let z : ◌≡◌ {A = ℕ} 0 1 = cc in omega arith)
part_zero bound false x h e = h

actions_zero : (f : Form) (stands : Bool) (a : ℕ) → FitActions f stands a → stands ≡ false → a ≡ 0
actions_zero f true a h e = absurd (let z : ◌≡◌ {A = ℕ} 0 1 = cc in omega arith)
actions_zero f false a h e = h

pub mask_small : {f : Form} (h : Head) → FitHeader f h → h.0.1 < 2 ^ 32
mask_small h f = go (letters_stand h.0.0) f.there.masked.there.mask_fits
  where
    go : (b : Bool) → FitPart (2 ^ 32) b h.0.1 → h.0.1 < 2 ^ 32
    go true k = k
    go false k = omega arith

pub actions_small : {f : Form} (h : Head) → FitHeader f h → h.1 < 2 ^ ACTIONS
actions_small {f} h k = go f (list_stands h.0.0) k.there.actions_fit
  where
    go : (f : Form) (b : Bool) → FitActions f b h.1 → h.1 < 2 ^ ACTIONS
    go mdl1 true k = omega arith
    go mdl2 true k = k
    go mdl1 false k = omega arith
    go mdl2 false k = omega arith

-- MDL1: action 0 at most
first_only : (s : State) → Holds mdl1 s → action_map s.lists ≤ 1
first_only s h = map_first 15 _ (λ n. ap has_list (h (suc n) (omega arith)))

only_first : (s : State) → Holds mdl1 s → (action_map s.lists ≡ 0 → ⊥) → action_map s.lists ≡ 1
only_first s h n = omega (arith, first_only s h, n)

-- the header of a state
abbrev pub header_of : State → Head
header_of s = ((map_byte (has_bits s.mask) (has_bits (action_map s.lists)), s.mask), action_map s.lists)

pub header_fits : (f : Form) (s : State) → s.mask < 2 ^ 32 → Holds f s → FitHeader f (header_of s)
header_fits f s h k =
    let a = has_bits s.mask in
    let b = has_bits (action_map s.lists) in
    record {
      there = record {
        masked = record {
          there = record { map_fits_lem = map_small_byte a b; mask_fits = rw (map_letters a b) (fits_filled (FitPart (2 ^ 32)) s.mask (λ e. e) (λ _. h)) };
          filled = rw (map_letters a b) (not_tells (eqb_tells s.mask 0)).says;
        };
        actions_fit = rw (map_list a b) (acts f k);
      };
      filled = rw (map_list a b) (not_tells (eqb_tells (action_map s.lists) 0)).says;
    }
  where
    acts : (f : Form) → Holds f s → FitActions f (has_bits (action_map s.lists)) (action_map s.lists)
    acts mdl1 k = fits_filled (FitActions mdl1) (action_map s.lists) (λ e. e) (only_first s k)
    acts mdl2 k = fits_filled (FitActions mdl2) (action_map s.lists) (λ e. e) (λ _. map_small ACTIONS _)

-- a header that fits is the one of its state
pub header_same : (f : Form) (n : ℕ) (w : Begun) → length w.1 ≡ ACTIONS → FitBegun f n w → header_of (made w) ≡ w.0
header_same f n w many b =
    let h : FitHeader f w.0 = b.header in
    let m : ℕ = w.0.0.0 in
    let x : ℕ = w.0.0.1 in
    let a : ℕ = w.0.1 in
    let e : a ≡ action_map w.1 = map_is ACTIONS a _ (actions_small w.0 h) (λ c l. sym (b.each c (omega arith)).some) in
    let i : has_bits x ≡ letters_stand m = stands_filled (letters_stand m) x (part_zero (2 ^ 32) (letters_stand m) x h.there.masked.there.mask_fits) h.there.masked.filled in
    let j : has_bits a ≡ list_stands m = stands_filled (list_stands m) a (actions_zero f (list_stands m) a h.there.actions_fit) h.filled in
    rw (← e, i, j, map_back m h.there.masked.there.map_fits_lem) refl

-- it stands in front of the lists
pub header_first : (f : Form) (s : State) → encode_begun f (header_of s, s.lists) ≡ encode_state f s
header_first f s =
    let a = has_bits s.mask in
    let b = has_bits (action_map s.lists) in
    rw (map_letters a b, map_list a b)
    (ap (λ (l : List ℕ). encode_byte (map_byte a b) ++ l)
    (append_assoc (encode_part a encode_four s.mask) (encode_part b (encode_actions f) (action_map s.lists)) (encode_all encode_list s.lists)))

-- a state of MDL1 has no successors by another action
holds-first : (n : ℕ) (w : Begun) → length w.1 ≡ ACTIONS → FitBegun mdl1 n w → (c : ℕ) → 1 ≤ c → get_or w.1 c [] ≡ []
holds-first n w many b c one = go (dec_lt c ACTIONS)
  where
    none : (stands : Bool) → FitActions mdl1 stands w.0.1 → bit w.0.1 c ≡ false
    none true e = rw e (one_bit 0 c ∙ ne_eqb c 0 (λ z. omega arith))
    none false e = rw e (no_bit c)

    go : Dec (c < ACTIONS) → get_or w.1 c [] ≡ []
    go (yes l) = no_list (get_or w.1 c []) ((b.each c (omega arith)).some ∙ none (list_stands w.0.0.0) b.header.there.actions_fit)
    go (no l) = get_or-eq_default w.1 [] (omega arith)

pub begun_holds : (f : Form) (n : ℕ) (w : Begun) → length w.1 ≡ ACTIONS → FitBegun f n w → Holds f (made w)
begun_holds mdl1 n w many b = holds-first n w many b
begun_holds mdl2 n w many b = tt
