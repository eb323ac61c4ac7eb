-- the test that the principal has a kind is exact
use Rattle.std.specs.Prelude.{ℕ, ◌<◌, length}
use Rattle.formula.specs.Table.{Table, kind}
use Rattle.formula.specs.Nodes.{Proof}
use Rattle.formula.specs.Claim.{Claim, Derivation}
use Rattle.calculus.specs.Sequents.{formula}
use Rattle.calculus.specs.Rules.{Principal}
use Rattle.calculus.specs.View.{plain}
use Rattle.calculus.specs.Judge.{of_kind}
use Rattle.calculus.specs.Given.{Given}
use Rattle.verdict.specs.Tells.{Tells, tells_as, eqb_tells, and_tells}
use Rattle.calculus.proofs.PrincipalLaws.{belongs_tells}

module _ (c : Claim) (d : Derivation) (G : Given c d) where
  abbrev t : Table
  t = c.entries

  abbrev p : Proof
  p = d.nodes

  module _ (v : ℕ) (real : v < length p) where
    pub principal_tells : (k : ℕ) → Tells (of_kind t (plain p) k v) (Principal c d v k)
    unfolding of_kind
    principal_tells k = tells_as
        (λ (b, e). record { belongs = b; of_kind = e })
        (λ z. (z.belongs, z.of_kind))
        (and_tells (belongs_tells c d G v real) (eqb_tells (kind t (formula p v)) k))
