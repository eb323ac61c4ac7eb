-- numbers at a place of a file: what the program's answers tell, and the step laws that they rest on
use Rattle.std.specs.Prelude.{◌≡◌, List, Bool, true, false, ℕ, ◌+◌, ◌-◌, ◌<◌, ◌≤◌, length, drop, Ok, Err}
use Rattle.std.proofs.Math.Path.{refl, ap}
use Rattle.std.proofs.Common.{sym, ◌∙◌}
use native.Mathlib.Omega.{arith}
use Rattle.verdict.specs.Tells.{fails_holds}
use Rattle.verdict.specs.declared.Refusal.{Refusal}
use Rattle.encoding.specs.Encode.{Counts}
use Rattle.encoding.specs.Parse.{Got, fault, got, two, field, in_range, count}
use Rattle.encoding.specs.Parsed.{Parsed}
use Rattle.encoding.specs.declared.Read.{Read}
use Rattle.encoding.specs.ListLaws.{range_tells}
use Rattle.encoding.specs.Places.{InFile, word_at, two_at, two_end}
use Rattle.encoding.specs.Walk.{Reached, guard_passes, guard_fails, guard_cut, guard_holds}

-- what stands at a place of a file that is indexed
unfoldable pub two_at_lem : ℕ → List ℕ → ℕ → Got ℕ
two_at_lem early s at = two early (drop at s) at

unfoldable pub field_at : ℕ → Bool → List ℕ → ℕ → Got ℕ
field_at early b s at = field early b (drop at s) at

unfoldable pub count_at_lem : ℕ → ℕ → ℕ → ℕ → List ℕ → ℕ → Got ℕ
count_at_lem least top unfit early s at = count least top unfit (two early) (drop at s) at

abbrev pub NumberTells : List ℕ → ℕ → Got ℕ → Parsed ℕ → Type 0
NumberTells s limit g (Ok r) = Reached s limit g r.value r.next
NumberTells s limit g (Err e) = g ≡ fault e.number e.place

-- what holds of the answer in an arm that knows which it is
module _ (s : List ℕ) (limit : ℕ) {g : Got ℕ} {r : Parsed ℕ} (t : NumberTells s limit g r) where
  pub number_read : {v : Read ℕ} → r ≡ Ok v → Reached s limit g v.value v.next
  number_read e = rw e at t

  pub number_refused : {e : Refusal ℕ} → r ≡ Err e → g ≡ fault e.number e.place
  number_refused e = rw e at t

module _ (early : ℕ) (s : List ℕ) (at : ℕ) where
  module _ {limit : ℕ} (p : InFile s limit at) where
    pub two_cut : length s - at < 2 → two_at_lem early s at ≡ fault early (length s)
    unfolding two_at_lem
    two_cut h = two_end early s at p.within (omega arith)

    pub two_read : 2 ≤ length s - at → {v : ℕ} → v ≡ word_at s at → Reached s (at + 2) (two_at_lem early s at) v (at + 2)
    unfolding two_at_lem
    two_read h e = record { found = two_at early s at (omega arith) ∙ ap (λ (n : ℕ). got n (drop (at + 2) s) (at + 2)) (sym e); inside = omega arith; near = omega arith }

    pub field_skipped : {b : Bool} → b ≡ false → Reached s (at + 2) (field_at early b s at) 0 at
    unfolding field_at
    field_skipped e = record { found = rw e refl; inside = p.within; near = omega arith }

  pub field_stands : {b : Bool} → b ≡ true → field_at early b s at ≡ two_at_lem early s at
  unfolding field_at two_at_lem
  field_stands e = rw e refl

  module _ (least top unfit : ℕ) where
    pub count_cut : {n q : ℕ} → two_at_lem early s at ≡ fault n q → count_at_lem least top unfit early s at ≡ fault n q
    unfolding two_at_lem count_at_lem
    count_cut h = guard_cut (in_range least top) unfit (two early) (drop at s) at h

    module _ {limit v o : ℕ} (h : Reached s limit (two_at_lem early s at) v o) where
      pub count_read : least ≤ v → v ≤ top → Reached s limit (count_at_lem least top unfit early s at) v o
      unfolding two_at_lem count_at_lem
      count_read l m = record { found = guard_passes (in_range least top) unfit (two early) (drop at s) at h.found ((range_tells least top v).holds (l, m)); inside = h.inside; near = h.near }

      pub count_unfit : (Counts least top v → ⊥) → count_at_lem least top unfit early s at ≡ fault unfit at
      unfolding two_at_lem count_at_lem
      count_unfit n = guard_fails (in_range least top) unfit (two early) (drop at s) at h.found (fails_holds (range_tells least top v) n)

  pub count_inside : (least top unfit : ℕ) {limit v o : ℕ} → Reached s limit (count_at_lem least top unfit early s at) v o → Counts least top v
  unfolding count_at_lem
  count_inside least top unfit {v = v} h = (range_tells least top v).says (guard_holds (in_range least top) unfit (two early) (drop at s) at h.found)
