-- so many bytes from a place on, as a slice of the file
use Rattle.std.specs.Prelude.{◌≡◌, List, ℕ, ◌+◌, ◌-◌, ◌<◌, ◌≤◌, length, get_or, take, drop}
use Rattle.std.proofs.Common.{◌∙◌, arith, length-take, length-drop, get_or-drop}
use Rattle.std.proofs.lemmas.List.{get_or-take}

module _ (s : List ℕ) (at k : ℕ) (room : at + k ≤ length s) where
  abbrev pub slice : List ℕ
  slice = take (at + k - at) (drop at s)

  pub slice_long : length slice ≡ k
  slice_long = omega (arith, length-take (at + k - at) (drop at s), length-drop at s)

  pub slice_at : (i : ℕ) → i < length slice → get_or slice i 0 ≡ get_or s (at + i) 0
  slice_at i h = get_or-take (at + k - at) (drop at s) i 0 (omega (arith, slice_long)) ∙ get_or-drop at s i 0
