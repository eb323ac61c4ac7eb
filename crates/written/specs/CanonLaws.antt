-- the least entry of a formula that is no name
use Rattle.std.specs.Prelude.{◌≡◌, refl, ◌≢◌, Bool, true, false, ℕ, zero, suc, ◌+◌, ◌<◌, ◌≤◌, length}
use Rattle.std.proofs.Common.{sym, ◌∙◌, true≢false, arith}
use Rattle.std.proofs.Math.Path.{ap}
use Rattle.std.proofs.Math.Bool.{decide_iff}
use Rattle.verdict.specs.Tests.{choose}
use Rattle.verdict.specs.Tells.{Tells, eqb_tells, and_tells, not_tells}
use Rattle.formula.specs.Kind
use Rattle.formula.specs.Table.{Table, kind}
use Rattle.formula.specs.Codes.{Formula}
use Rattle.written.specs.Form.{Form, same_form}
use Rattle.written.specs.Written.{written, SameFormula}
use Rattle.written.specs.Canon.{least, has_form, canon}

least_passes : (ok : ℕ → Bool) (n i e : ℕ) → i ≤ e → e < i + n → ok e ≡ true → (least ok n i < i + n) × (ok (least ok n i) ≡ true)
unfolding least
least_passes ok zero i e h l p = absurd (omega arith)
least_passes ok (suc n) i e h l p = go (ok i) refl (least_passes ok n (suc i) e)
  where
    apart : ok i ≡ false → e ≡ i → ⊥
    apart q k = true≢false (sym p ∙ ap ok k ∙ q)

    go : (b : Bool) → ok i ≡ b → (suc i ≤ e → e < suc i + n → ok e ≡ true → (least ok n (suc i) < suc i + n) × (ok (least ok n (suc i)) ≡ true))
        → (choose b i (least ok n (suc i)) < i + suc n) × (ok (choose b i (least ok n (suc i))) ≡ true)
    go true q ih = (omega arith, q)
    go false q ih =
        let n = apart q in
        let (l, k) = ih (omega arith) (omega arith) p in
        (omega arith, k)

pub least_local : (ok pass : ℕ → Bool) (n i : ℕ) → ((f : ℕ) → f < i + n → ok f ≡ pass f) → least ok n i ≡ least pass n i
unfolding least
least_local ok pass zero i h = refl
least_local ok pass (suc n) i h = rw (h i (omega arith)) (ap (choose (pass i) i) (least_local ok pass n (suc i) (λ f l. h f (omega arith))))

module _ (t : Table) where
  pub has_form_tells : (F : Form) (f : ℕ) → Tells (has_form t F f) ((kind t f ≢ Kind.NAME) × (F ≡ written t f))
  unfolding has_form
  has_form_tells F f =
      let (says, holds) = decide_iff (same_form F (written t f)) in
      and_tells (not_tells (eqb_tells (kind t f) Kind.NAME)) (record { says = says; holds = holds })

  -- an entry's number is that of an entry of the table, no name, with the same formula
  pub canon_has : (e : ℕ) → Formula t e → Formula t (canon t e) × SameFormula t e (canon t e)
  unfolding canon
  canon_has e F =
      let mine = (has_form_tells (written t e) e).holds (F.no_name, refl) in
      let (l, p) = least_passes (has_form t (written t e)) (length t) 0 e (omega arith) (omega (arith, F.inside)) mine in
      let (n, q) = (has_form_tells (written t e) (canon t e)).says p in
      (record { inside = omega arith; no_name = n }, q)

  pub canon_holds : (e f : ℕ) → SameFormula t e f → canon t e ≡ canon t f
  unfolding canon
  canon_holds e f q = ap (λ (F : Form). least (has_form t F) (length t) 0) q
