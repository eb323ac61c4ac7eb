-- the test of 36 compares keys: it tells that a goal has the formulas of a root, all in focus
use Rattle.std.proofs.Common.{arith}
use mathlib.Core.List.{List}
use Prim.Native.Nat.{ℕ, ◌<◌}
use Rattle.std.proofs.Math.ListN.{length}
use Rattle.verdict.specs.Sets.{Same, elements}
use Rattle.verdict.specs.Tells.{Tells}
use Rattle.formula.specs.Codes.{code, Formula}
use Rattle.formula.specs.Claim.{Claim, Derivation}
use Rattle.calculus.specs.Sequents.{sequent}
use Rattle.calculus.specs.Goals.{focused}
use Rattle.calculus.specs.Given.{Given}
use Rattle.calculus.specs.View.{plain}
use Rattle.calculus.specs.Judge.{states}
use Rattle.calculus.specs.KeyLaws.{keys_image, same_keys}
use Rattle.calculus.specs.PrincipalLaws.{code_good, sequent_keys}

module _ (c : Claim) (d : Derivation) (G : Given c d) where
  pub states_tells : (v : ℕ) → v < length d.nodes → (ms : List ℕ) → ((e : ℕ) → elements ms e → Formula c.entries e)
      → Tells (states c.entries (plain d.nodes) v ms) (Same (sequent c.entries d.nodes v) (focused c.entries ms))
  unfolding states
  states_tells v real ms formulas =
      same_keys c.entries
      (sequent_keys c d G v real)
      (keys_image c.entries (λ e. code e 1) ms (λ e n. code_good c.entries e 1 (omega arith) (formulas e n)))
