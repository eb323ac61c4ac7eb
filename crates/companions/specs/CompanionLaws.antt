-- a back leaf's link, told by the numbers of its ancestors
use Rattle.std.specs.Prelude.{◌≡◌, refl, true, false, ◌&&◌, List, ℕ, ◌+◌, ◌*◌, ◌<◌, ◌≤◌, eqb, get_or}
use Rattle.std.proofs.Common.{sym, ap, arith}
use Rattle.std.proofs.Math.Bool.{and_assoc}
use Rattle.verdict.specs.Tests.{same}
use Rattle.formula.specs.Rule
use Rattle.formula.specs.Table.{Table}
use Rattle.formula.specs.Nodes.{Proof, Node, node}
use Rattle.formula.specs.PlainNodes.{proof_of, proof_of_length, proof_of_node, proof_of_back}
use Rattle.calculus.specs.View.{plain}
use Rattle.calculus.specs.Judge.{keys, ancestor, back_kept}
use Rattle.spans.specs.Spans.{spanned}
use Rattle.spans.specs.Ancestors.{AncestorsTold, not-below}
use Rattle.companions.specs.Companions.{companion_fits}

module _ (rs ls ss cs : List ℕ) (n v : ℕ) (real : v < n) where
  abbrev link : ℕ
  link = get_or ls (4 * v + 3) 0

  pub link_below : v ≤ link → companion_fits (proof_of rs ls ss cs n) v ≡ false
  link_below h = rw (proof_of_back rs ls ss cs n v real, not-below (proof_of rs ls ss cs n) link v h) refl

  module _ (entries exits : List ℕ) (A : AncestorsTold (proof_of rs ls ss cs n) entries exits) (h : link < v) where
    told : spanned entries exits link v ≡ ancestor (plain (proof_of rs ls ss cs n)) link v
    told = A.tells link v h (rw proof_of_length real)

    pub no_ancestor : spanned entries exits link v ≡ false → companion_fits (proof_of rs ls ss cs n) v ≡ false
    no_ancestor e = rw (proof_of_back rs ls ss cs n v real, ← told, e) refl

    pub some_ancestor : spanned entries exits link v ≡ true → companion_fits (proof_of rs ls ss cs n) v ≡ eqb (get_or rs link 0) Rule.D
    some_ancestor e = rw (proof_of_back rs ls ss cs n v real, ← told, e) (ap (λ (x : Node). eqb x.rule Rule.D) (proof_of_node rs ls ss cs n link (omega arith)))

-- with the sequents, which are compared by formula (T-03), this is refusal 38's test
pub back_kept_is : (t : Table) (p : Proof) (v : ℕ)
    → back_kept t (plain p) v ≡ (companion_fits p v && same (keys t (plain p) v) (keys t (plain p) (node p v).back))
unfolding back_kept
back_kept_is t p v = sym (and_assoc (ancestor (plain p) (node p v).back v) (eqb (node p (node p v).back).rule Rule.D) _)
