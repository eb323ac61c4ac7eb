-- successors that rise: they fit in every model that has a state for each of them
use Rattle.std.specs.Prelude.{◌≡◌, List, [], ℕ, suc, ◌+◌, ◌<◌, ◌≤◌, length, get_or, drop, Ok}
use Rattle.std.proofs.Math.Nat.{add-zero}
use native.Mathlib.Omega.{arith}
use Rattle.encoding.specs.Parse.{times}
use Rattle.encoding.specs.Walk.{Walking, walk_begins, walk_steps, walk_ends}
use Rattle.model_files.specs.ReadModel.{successors}
use Rattle.model.specs.ListSteps.{Finds, one_successor, after_successor, successor_fits}

-- so many successors in a model of n states stand at a place
abbrev pub SuccessorsStand : List ℕ → ℕ → ℕ → ℕ → Type 0
SuccessorsStand s from k n = Finds s (from + 64) (successors n k (drop from s) from) (Ok (from + k))

module _ (s : List ℕ) (from k : ℕ) where
  -- i of k successors are read, and each is below the least that may follow
  pub record Risen (i least : ℕ) : Type 0 where
    pub few : i ≤ least
    pub read : (n : ℕ) → least ≤ n → (l : List ℕ) × Walking (one_successor n) after_successor (successors n k (drop from s) from) k i l least (drop (from + i) s) (from + i)

  pub risen_none : Risen 0 0
  unfolding times
  risen_none = record { few = omega arith; read = λ n h. ([], rw add-zero (walk_begins (one_successor n) after_successor k 0 (drop from s) from)) }

  module _ {i least : ℕ} (R : Risen i least) where
    pub risen_more : i < k → from + i < length s → least ≤ get_or s (from + i) 0 → Risen (i + 1) (get_or s (from + i) 0 + 1)
    risen_more h inside rises = record {
      few = omega (arith, R.few);
      read = λ n m.
          let u : ℕ = get_or s (from + i) 0 in
          let e : suc u ≡ u + 1 = omega arith in
          let next : from + i + 1 ≡ from + (i + 1) = omega arith in
          let stepped = walk_steps (one_successor n) after_successor (R.read n (omega arith)).1 h (successor_fits n least s (from + i) inside rises (omega arith)) in
          (_, rw (e, next) at stepped);
    }

    -- all of them, in a model of n states
    pub risen_all : k ≤ i → i ≤ k → from + k ≤ length s → (n : ℕ) → least ≤ n → n ≤ 64 → SuccessorsStand s from k n
    unfolding times
    risen_all h j room n l m =
        let e : from + i ≡ from + k = omega arith in
        (_, record { found = rw e at (walk_ends (one_successor n) after_successor (R.read n l).1 h); inside = room; near = omega (arith, R.few) })
