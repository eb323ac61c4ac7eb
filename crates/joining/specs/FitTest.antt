-- 73 computed: whether two entry tables are the same and two goals fit
use Rattle.std.specs.Prelude.{◌≡◌, refl, List, [], ◌∷◌, Bool, true, false, not, ◌&&◌, ℕ, length}
use Rattle.std.proofs.Common.{ap, ap₂, ◌∙◌, arith}
use Rattle.std.proofs.lemmas.Bool.{false≢true}
use Rattle.std.proofs.Math.Dec.{eqb, ltb}
use Rattle.verdict.specs.Sets.{Same, ◌⊆◌, elements}
use Rattle.verdict.specs.Tests.{same, each}
use Rattle.verdict.specs.Tells.{Tells, tells_as, eqb_tells, and_tells}
use Rattle.verdict.specs.SetTells.{lists_each, lists_self}
use Rattle.verdict.proofs.SetTells.{same_tells}
use Rattle.formula.specs.Kind
use Rattle.formula.specs.Table.{Table, Entry, kind}
use Rattle.formula.specs.Target.{target, target_a, target_b}
use Rattle.written.specs.Written.{written}
use Rattle.written.specs.Canon.{canon}
use Rattle.written.specs.CanonLaws.{canon_holds}
use Rattle.written.proofs.CanonLaws.{canon_says}
use Rattle.joining.specs.Goals.{Members, formulas, holds, rest}

unfoldable pub same_entry : Entry → Entry → Bool
same_entry x y = eqb x.kind y.kind && (eqb x.a y.a && eqb x.b y.b)

-- record by record
unfoldable pub same_entries_lem : Table → Table → Bool
unfolding same_entry
same_entries_lem [] [] = true
same_entries_lem [] (y ∷ u) = false
same_entries_lem (x ∷ t) [] = false
same_entries_lem (x ∷ t) (y ∷ u) =
    let later = same_entries_lem t u in
    same_entry x y && later

entry_tells : (x y : Entry) → Tells (same_entry x y) (x ≡ y)
unfolding same_entry
entry_tells x y = tells_as into (λ q. (ap (λ (z : Entry). z.kind) q, (ap (λ (z : Entry). z.a) q, ap (λ (z : Entry). z.b) q)))
    (and_tells (eqb_tells x.kind y.kind) (and_tells (eqb_tells x.a y.a) (eqb_tells x.b y.b)))
  where
    into : (x.kind ≡ y.kind) × ((x.a ≡ y.a) × (x.b ≡ y.b)) → x ≡ y
    into (k, (a, b)) = ap (λ (i : ℕ). record { kind = i; a = x.a; b = x.b }) k
        ∙ ap (λ (i : ℕ). record { kind = y.kind; a = i; b = x.b }) a
        ∙ ap (λ (i : ℕ). record { kind = y.kind; a = y.a; b = i }) b

pub same_entries_tells : (t u : Table) → Tells (same_entries_lem t u) (t ≡ u)
unfolding same_entries_lem
same_entries_tells [] [] = record { says = λ _. refl; holds = λ _. refl }
same_entries_tells [] (y ∷ u) = record { says = λ h. absurd (false≢true h); holds = λ q. absurd (let z : ◌≡◌ {A = ℕ} 0 1 = cc in omega arith) }
same_entries_tells (x ∷ t) [] = record { says = λ h. absurd (false≢true h); holds = λ q. absurd (let z : ◌≡◌ {A = ℕ} 0 1 = cc in omega arith) }
same_entries_tells (x ∷ t) (y ∷ u) = tells_as
    (λ (h, k). ap₂ {C = Table} (λ a s. a ∷ s) h k)
    (λ q. let h : x ≡ y = cc in let k : t ≡ u = cc in (h, k))
    (and_tells (entry_tells x y) (same_entries_tells t u))

module _ (t : Table) where
  -- whether two lists hold the same formulas
  unfoldable pub same_formulas : List ℕ → List ℕ → Bool
  unfolding same each canon
  same_formulas l r = same (each (canon t) l) (each (canon t) r)

  unfoldable pub fits : ℕ → List ℕ → List ℕ → Bool
  unfolding same_formulas rest holds target
  fits e l r =
      let s = rest t l r in
      eqb (kind t e) Kind.AND
      && (same_formulas l (target_a t e ∷ s)
      && (same_formulas r (target_b t e ∷ s)
      && (not (holds t s e) && ltb (length s) 24)))

  numbers_formulas : (l r : List ℕ) → Members t l → Members t r → elements (each (canon t) l) ⊆ elements (each (canon t) r) → formulas t l ⊆ formulas t r
  numbers_formulas l r L R f F (e, m, q) =
      let k = f (canon t e) ((lists_each (canon t) l).from (canon t e) (e, m, refl)) in
      let (g, n, i) = (lists_each (canon t) r).into (canon t e) k in
      (g, n, q ∙ canon_says t e g (L e m) (R g n) i)

  formulas_numbers : (l r : List ℕ) → formulas t l ⊆ formulas t r → elements (each (canon t) l) ⊆ elements (each (canon t) r)
  formulas_numbers l r f c m =
      let (e, n, i) = (lists_each (canon t) l).into c m in
      let (g, k, q) = f (written t e) (e, n, refl) in
      (lists_each (canon t) r).from c (g, k, i ∙ canon_holds t e g q)

  pub same_formulas_tells : (l r : List ℕ) → Members t l → Members t r → Tells (same_formulas l r) (Same (formulas t l) (formulas t r))
  unfolding same_formulas
  same_formulas_tells l r L R = tells_as
      (λ s. record { into = numbers_formulas l r L R s.into; from = numbers_formulas r l R L s.from })
      (λ s. record { into = formulas_numbers l r s.into; from = formulas_numbers r l s.from })
      (same_tells (each (canon t) l) (lists_self (each (canon t) r)))
