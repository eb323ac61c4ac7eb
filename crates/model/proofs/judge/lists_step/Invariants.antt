-- the loop walks the lists of the actions by what is left of their map
use mathlib.Core.List.{List}
use Prim.Native.Nat.{ℕ}
use Rattle.model.specs.ActionSteps.{Acting}
use Rattle.model.proofs.judge.lists_step.Given as goal

abbrev pub invariant-loop-rest : goal.invariant-loop-rest
invariant-loop-rest l = (c : ℕ) × (ls : List (List ℕ)) × Acting l.bytes l.begin l.states l.actions l.from c l.rest ls l.at

abbrev pub decreases-loop-rest : goal.decreases-loop-rest
decreases-loop-rest l = l.rest
