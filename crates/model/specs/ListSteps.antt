-- the successors by one action at a place of a file that is indexed: what the program's steps find is what the parsers find there
use Rattle.std.specs.Prelude.{◌≡◌, refl, ◌≢◌, List, false, ℕ, suc, ◌+◌, ◌<◌, ◌≤◌, ltb, length, get_or, drop, Result, Ok, Err}
use Rattle.std.proofs.Math.Path.{ap}
use Rattle.std.proofs.Common.{◌∙◌, arith}
use borrow.Author.Tests.{eq-eqb, ne_eqb, le-leb, lt-leb, lt-ltb, le-ltb}
use Rattle.encoding.specs.Parse.{Got, fault, got, Parser, bind, guard, byte, times, fits_from}
use Rattle.encoding.specs.Places.{byte_at, byte_end}
use Rattle.encoding.specs.Walk.{Reached, guard_passes, guard_fails, guard_cut}
use Rattle.model_files.specs.ReadModel.{early, list_count, successors, list}
use Rattle.verdict.specs.declared.Refusal.{Refusal}

-- the place after what was read, or a refusal
abbrev pub Step : Type 0
Step = Result ℕ (Refusal ℕ)

abbrev pub Finds : {A : Type 0} → List ℕ → ℕ → Got A → Step → Type 0
Finds {A} s limit g (Ok o) = (x : A) × Reached s limit g x o
Finds s limit g (Err r) = g ≡ fault r.number r.place

-- a successor that is at least c, in a model of n states, and the least that may follow it
abbrev pub one_successor : ℕ → ℕ → Parser ℕ
one_successor n c s at = guard (fits_from (λ u. ltb u n) c) 64 (byte early) s at

abbrev pub after_successor : ℕ → ℕ → ℕ
after_successor c u = suc u

module _ (n c : ℕ) (s : List ℕ) (at : ℕ) where
  pub successor_cut : at ≤ length s → length s ≤ at → one_successor n c (drop at s) at ≡ fault early (length s)
  successor_cut h k = guard_cut (fits_from (λ u. ltb u n) c) 64 (byte early) (drop at s) at (byte_end early s at (omega arith))

  module _ (inside : at < length s) where
    unfit : fits_from (λ u. ltb u n) c (get_or s at 0) ≡ false → one_successor n c (drop at s) at ≡ fault 64 at
    unfit e = guard_fails (fits_from (λ u. ltb u n) c) 64 (byte early) (drop at s) at (byte_at early s at inside) e

    -- not rising
    pub successor_low : get_or s at 0 < c → one_successor n c (drop at s) at ≡ fault 64 at
    successor_low l = unfit (rw (lt-leb c (get_or s at 0) l) refl)

    module _ (rises : c ≤ get_or s at 0) where
      -- out of range
      pub successor_far : n ≤ get_or s at 0 → one_successor n c (drop at s) at ≡ fault 64 at
      successor_far l = unfit (rw (le-leb c (get_or s at 0) rises, le-ltb (get_or s at 0) n l) refl)

      pub successor_fits : get_or s at 0 < n → one_successor n c (drop at s) at ≡ got (get_or s at 0) (drop (at + 1) s) (at + 1)
      successor_fits l =
          guard_passes (fits_from (λ u. ltb u n) c) 64 (byte early) (drop at s) at (byte_at early s at inside)
          (rw (le-leb c (get_or s at 0) rises, lt-ltb (get_or s at 0) n l) refl)

-- a list: its count, and so many successors
module _ (begin n : ℕ) (s : List ℕ) (at : ℕ) where
  abbrev then_successors : Got ℕ → Got (List ℕ)
  unfolding times
  then_successors g = bind g (λ k r o. successors n k r o)

  by_count : {g : Got ℕ} → list_count begin (drop at s) at ≡ g → list begin n (drop at s) at ≡ then_successors g
  unfolding times
  by_count e = ap then_successors e

  pub list_cut : at ≤ length s → length s ≤ at → list begin n (drop at s) at ≡ fault early (length s)
  unfolding times
  list_cut h k = by_count {g = fault early (length s)} (rw (byte_end early s at (omega arith)) refl)

  module _ (inside : at < length s) where
    pub list_zero : get_or s at 0 ≡ 0 → list begin n (drop at s) at ≡ fault 63 begin
    unfolding times
    list_zero z = by_count {g = fault 63 begin} (rw (byte_at early s at inside, eq-eqb (get_or s at 0) 0 z) refl)

    pub list_counted : get_or s at 0 ≢ 0 → list begin n (drop at s) at ≡ successors n (get_or s at 0) (drop (at + 1) s) (at + 1)
    unfolding times
    list_counted m = by_count {g = got (get_or s at 0) (drop (at + 1) s) (at + 1)} (rw (byte_at early s at inside, ne_eqb (get_or s at 0) 0 m) refl)

    pub finds_list : get_or s at 0 ≢ 0 → (r : Step) → Finds s (at + 1 + 64) (successors n (get_or s at 0) (drop (at + 1) s) (at + 1)) r
        → Finds s (at + 65) (list begin n (drop at s) at) r
    finds_list m (Ok o) (l, w) = (l, record { found = list_counted m ∙ w.found; inside = w.inside; near = omega (arith, w.near) })
    finds_list m (Err f) e = list_counted m ∙ e
