-- that columns are a claim has one proof at most, as a ghost field's fact must
use Rattle.std.specs.Prelude.{List, ℕ}
use Rattle.std.specs.Coded.{Unit-prop}
use Rattle.std.proofs.Props.{props}
use Rattle.formula.specs.Shape.{Shape, leaf, two, step, fix, name, Fixpoint}
use Rattle.forming.specs.Claim.{Claim}

fixpoint_prop : (v : Shape) → IsProp (Fixpoint v)
fixpoint_prop (leaf l) = λ x. absurd x
fixpoint_prop (two o a b) = λ x. absurd x
fixpoint_prop (step m a) = λ x. absurd x
fixpoint_prop (fix σ a) = Unit-prop
fixpoint_prop (name x) = λ x. absurd x

pub claim_prop : (ks xs ys : List ℕ) → IsProp (Claim ks xs ys)
claim_prop ks xs ys = hlevel (props, fixpoint_prop)
