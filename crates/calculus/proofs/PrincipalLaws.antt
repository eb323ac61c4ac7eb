-- the test that the principal belongs to the node is exact, and the keys of the side stand for it
use Rattle.std.specs.Prelude.{ℕ, ◌<◌, length}
use Rattle.formula.specs.Kind
use Rattle.formula.specs.Table.{Table, kind}
use Rattle.formula.specs.Nodes.{Proof}
use Rattle.formula.specs.Claim.{Claim, Derivation}
use Rattle.calculus.specs.Sequents.{principal, formula, side, Belongs}
use Rattle.calculus.specs.View.{plain}
use Rattle.calculus.specs.Judge.{sides, belongs}
use Rattle.calculus.specs.Given.{Given}
use Rattle.verdict.specs.Tells.{Tells, tells_as, eqb_tells, ltb_tells, and_tells, not_tells, and_tells_given}
use Rattle.calculus.specs.KeyLaws.{Keys, member_key, keys_remove}
use Rattle.calculus.specs.PrincipalLaws.{sequent_keys}

module _ (c : Claim) (d : Derivation) (G : Given c d) where
  abbrev t : Table
  t = c.entries

  abbrev p : Proof
  p = d.nodes

  module _ (v : ℕ) (real : v < length p) where
    pub belongs_tells : Tells (belongs t (plain p) v) (Belongs t p v)
    unfolding belongs
    belongs_tells = tells_as
        (λ ((l, n), s). record { formula = record { inside = l; no_name = n }; inside = s })
        (λ z. ((z.formula.inside, z.formula.no_name), z.inside))
        (and_tells_given (and_tells (ltb_tells (formula p v) (length t)) (not_tells (eqb_tells (kind t (formula p v)) Kind.NAME)))
        (λ (l, n). member_key t (sequent_keys c d G v real) (principal p v) (record { inside = l; no_name = n })))

    pub side_keys : Belongs t p v → Keys t (sides t (plain p) v) (side t p v)
    unfolding sides
    side_keys b = keys_remove t (sequent_keys c d G v real) (principal p v) b.formula
