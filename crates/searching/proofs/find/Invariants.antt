-- The invariant: none of the entries passed is one.
use Prim.Native.Nat.{ℕ, ◌<◌}
use Rattle.searching.specs.Shaped.{Like}
use Rattle.searching.proofs.find.Given as goal

abbrev pub invariant-loop-f : goal.invariant-loop-f
invariant-loop-f l = (d : ℕ) → d < l.f → Like l.sought l.bound d → ⊥
