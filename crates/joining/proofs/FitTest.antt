-- the test that two goals fit is exact
use Rattle.std.specs.Prelude.{refl, List, ◌∷◌, ℕ, length}
use Rattle.std.proofs.Common.{ap, ◌∙◌, inl, inr, arith}
use mathlib.Core.List.Memᴰ
use Rattle.verdict.specs.Sets.{Same, ◌plus◌}
use Rattle.verdict.specs.Tells.{Tells, tells_as, eqb_tells, ltb_tells, and_tells, and_tells_given, not_tells}
use Rattle.verdict.specs.SetTells.{same_sym, same_trans}
use Rattle.formula.specs.Kind
use Rattle.formula.specs.Table.{Table, kind}
use Rattle.formula.specs.Codes.{Formula}
use Rattle.formula.specs.Target.{target_a, target_b}
use Rattle.formula.specs.ShapeLaws.{and_shape}
use Rattle.formula.specs.Members.{kind_formula}
use Rattle.conditions.specs.WellFormed.{WellFormed}
use Rattle.written.specs.Form.{Form}
use Rattle.written.specs.Written.{written}
use Rattle.calculus.specs.PrincipalLaws.{operand_formula}
use Rattle.joining.specs.Goals.{Members, formulas, rest, Fit}
use Rattle.joining.specs.GoalLaws.{holds-tells, rest_members}
use Rattle.joining.specs.FitTest.{fits, same_formulas, same_formulas_tells}

module _ (t : Table) where
  formulas_cons : (e : ℕ) (l : List ℕ) → Same (formulas t (e ∷ l)) (formulas t l plus written t e)
  formulas_cons e l = record { into = into; from = from }
    where
      into : (F : Form) → formulas t (e ∷ l) F → (formulas t l plus written t e) F
      into F (c, Memᴰ.head i, q) = inr (q ∙ ap (written t) i)
      into F (c, Memᴰ.tail m, q) = inl (c, m, q)

      from : (F : Form) → (formulas t l plus written t e) F → formulas t (e ∷ l) F
      from F (inl (c, m, q)) = (c, Memᴰ.tail m, q)
      from F (inr q) = (e, Memᴰ.head refl, q)

  module _ (wf : WellFormed t) (e : ℕ) (l r : List ℕ) (L : Members t l) (R : Members t r) where
    rest_formulas : Members t (rest t l r)
    rest_formulas f m = L f (rest_members t l r f m)

    with_formulas : (o : ℕ) → Formula t o → Members t (o ∷ rest t l r)
    with_formulas o F f (Memᴰ.head i) = rw i F
    with_formulas o F f (Memᴰ.tail m) = rest_formulas f m

    -- the rest with a target is a goal
    goal_tells : (g : List ℕ) (o : ℕ) → Members t g → Formula t o → Tells (same_formulas t g (o ∷ rest t l r)) (Same (formulas t g) (formulas t (rest t l r) plus written t o))
    goal_tells g o G F = tells_as
        (λ s. same_trans s (formulas_cons o (rest t l r)))
        (λ s. same_trans s (same_sym (formulas_cons o (rest t l r))))
        (same_formulas_tells t g (o ∷ rest t l r) G (with_formulas o F))

    pub fits_tells : Tells (fits t e l r) (Fit t e l r)
    unfolding fits
    fits_tells = tells_as
        (λ (k, (a, (b, (n, f)))). record { of_kind = k; first = a; second = b; apart = n; few = f })
        (λ K. (K.of_kind, (K.first, (K.second, (K.apart, K.few)))))
        (and_tells_given (eqb_tells (kind t e) Kind.AND) (λ k.
        let F : Formula t e = kind_formula t e (omega (arith, k)) (omega (arith, k)) in
        and_tells (goal_tells l (target_a t e) L (operand_formula t wf e _ F (and_shape t e k) (inl refl)))
        (and_tells (goal_tells r (target_b t e) R (operand_formula t wf e _ F (and_shape t e k) (inr refl)))
        (and_tells (not_tells (holds-tells t (rest t l r) rest_formulas e F)) (ltb_tells (length (rest t l r)) 24)))))
