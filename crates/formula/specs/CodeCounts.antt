-- how many codes stand before each node, where no node has more than 24
use Rattle.std.specs.Prelude.{[], ◌∷◌, ℕ, zero, suc, ◌*◌, ◌≤◌, length, take}
use Rattle.std.proofs.Common.{arith, length-append}
use Rattle.formula.specs.Nodes.{Proof, node}
use Rattle.formula.specs.Records.{all_codes}

pub few_codes : (p : Proof) → ((v : ℕ) → length (node p v).codes ≤ 24) → (v : ℕ) → length (all_codes (take v p)) ≤ 24 * v
unfolding all_codes
few_codes p h zero = omega arith
few_codes [] h (suc v) = omega arith
few_codes (w ∷ p) h (suc v) = omega (arith, length-append w.codes (all_codes (take v p)), h 0, few_codes p (λ u. h (suc u)) v)

pub more_codes : (p : Proof) (v : ℕ) → length (all_codes (take v p)) ≤ length (all_codes (take (suc v) p))
unfolding all_codes
more_codes p zero = omega arith
more_codes [] (suc v) = omega arith
more_codes (w ∷ p) (suc v) = omega (arith, length-append w.codes (all_codes (take v p)), length-append w.codes (all_codes (take (suc v) p)), more_codes p v)
