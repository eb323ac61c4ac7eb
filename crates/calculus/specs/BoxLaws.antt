-- what rule 4 asks of the members that are not the principal
use Rattle.std.specs.Prelude.{◌≢◌, ℕ, ◌<◌, length}
use Rattle.formula.specs.Table.{Table, action}
use Rattle.formula.specs.Codes.{entry_of_lem}
use Rattle.formula.specs.Nodes.{Proof}
use Rattle.formula.specs.Claim.{Claim, Derivation}
use Rattle.calculus.specs.Sequents.{read, listed, principal, formula}
use Rattle.calculus.specs.Rules.{DiamondOf}
use Rattle.calculus.specs.Given.{Given}

module _ (c : Claim) (d : Derivation) (G : Given c d) (v : ℕ) (real : v < length d.nodes) where
  abbrev t : Table
  t = c.entries

  abbrev p : Proof
  p = d.nodes

  -- a diamond of the principal's action
  abbrev Diamond : ℕ → Type 0
  Diamond x = DiamondOf t (action t (formula p v)) (entry_of_lem x)

  -- all other members are
  abbrev pub Others : Type 0
  Others = (x : ℕ) → listed p v x → read t x ≢ read t (principal p v) → Diamond x
