-- numbers that rise, with a condition on each, make a chain
use Rattle.std.specs.Prelude.{List, [], ◌∷◌, ℕ, suc, ◌<◌, ◌≤◌, length, get_or}
use Rattle.std.proofs.Common.{arith}
use Rattle.verdict.specs.Lists.{Each, none, more, Rising}
use Rattle.encoding.specs.Chain.{ends, goes}
use Rattle.encoding.specs.ChainLaws.{Numbers}

-- the first number, if there is one, lies at or above c
abbrev Above : ℕ → List ℕ → Type 0
Above c l = 0 < length l → c ≤ get_or l 0 0

module _ {P Q : ℕ → Type 0} where
  from_above : (c : ℕ) (l : List ℕ) → Above c l → Rising l → Each (λ x. P x × Q x) l → Numbers P Q c l
  from_above c [] a r none = ends
  from_above c (x ∷ l) a r (more f k) =
      let i : c ≤ x = a (omega arith) in
      goes {x = x} (f.0, (i, f.1)) (from_above (suc x) l (λ i. r 0 (omega arith)) (λ j i. r (suc j) (omega arith)) k)

  pub rising_chain : {l : List ℕ} → Rising l → Each (λ x. P x × Q x) l → Numbers P Q 0 l
  rising_chain {l} r k = from_above 0 l (λ i. omega arith) r k
