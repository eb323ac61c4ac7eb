-- a back leaf's link to its companion, as the code finds it
use Rattle.std.specs.Prelude.{◌≡◌, Bool, true, ◌&&◌, List, ℕ, ◌+◌, ◌*◌, ◌<◌, eqb, get_or}
use Rattle.formula.specs.Rule
use Rattle.formula.specs.Nodes.{Proof, node}
use Rattle.formula.specs.PlainNodes.{proof_of}
use Rattle.calculus.specs.View.{plain}
use Rattle.calculus.specs.Judge.{ancestor}
use Rattle.spans.specs.Ancestors.{AncestorsTold}

-- what a back leaf's link must be, but for the sequents
abbrev pub companion_fits : Proof → ℕ → Bool
companion_fits p v = ancestor (plain p) (node p v).back v && eqb (node p (node p v).back).rule Rule.D

-- what the code says of the link of v, of every proof whose ancestors the numbers tell
pub record Companion (rs ls entries exits : List ℕ) (v : ℕ) (answer : Bool) : Type 0 where
  pub above : answer ≡ true → get_or ls (4 * v + 3) 0 < v
  pub fits : (ss cs : List ℕ) (n : ℕ) → v < n → AncestorsTold (proof_of rs ls ss cs n) entries exits → answer ≡ companion_fits (proof_of rs ls ss cs n) v
