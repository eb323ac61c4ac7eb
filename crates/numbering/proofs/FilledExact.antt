-- where every number stands, numbers are equal just where the forms are the same
use Rattle.std.specs.Prelude.{◌≡◌, ◌⊎◌, ◌↔◌, Bool, length}
use Rattle.std.proofs.Math.Path.{refl}
use Rattle.std.proofs.Common.{sym, subst, ◌∙◌, inl, inr, arith}
use Prim.Native.Nat.{ℕ, zero, suc, ◌<◌}
use Rattle.verdict.specs.Tells.{Tells}
use Rattle.formula.specs.Table.{Table}
use Rattle.formula.specs.Shape.{name, shape, NoName}
use Rattle.formula.specs.Target.{target}
use Rattle.formula.specs.TableLaws.{name_or_not, target_by}
use Rattle.conditions.specs.Free.{Free}
use Rattle.conditions.specs.WellFormed.{WellFormed}
use Rattle.written.specs.Form.{Form}
use Rattle.written.specs.Written.{SameFormula}
use Rattle.written.proofs.WrittenLaws.{written_target}
use Rattle.written.specs.SameShape.{target_no_name}
use Rattle.numbering.specs.Renaming.{size}
use Rattle.numbering.specs.Forms.{form, Fits, form_written, bound_name, not_bound}
use Rattle.numbering.specs.Filled.{Numbers, Filled}
use Rattle.numbering.proofs.FilledLevels.{form_at, level_from, level_into}

module _ (t : Table) (wf : WellFormed t) (is_free : ℕ → ℕ → Bool) (tells : (e x : ℕ) → Tells (is_free e x) (Free t e x))
    (rep : Numbers) (on : ℕ → ℕ → Type 0) (F : Filled t is_free rep on) (all : (k e : ℕ) → Fits t is_free k e → on k e) where
  abbrev FormOf : ℕ → ℕ → Form
  FormOf k e = form t is_free k e

  abbrev Fit : ℕ → ℕ → Type 0
  Fit k e = Fits t is_free k e

  abbrev Exact : ℕ → ℕ → ℕ → Type 0
  Exact k e f = (rep k e ≡ rep k f) ↔ (FormOf k e ≡ FormOf k f)

  -- numbers tell forms smaller than n
  abbrev Upto : ℕ → Type 0
  Upto n = (k e f : ℕ) → size (FormOf k e) < n → Fit k e → Fit k f → Exact k e f

  module _ (k e f : ℕ) (E : Fit k e) (G : Fit k f) (ih : Upto (size (FormOf k e))) where
    no_names : NoName (shape t e) → NoName (shape t f) → Exact k e f
    no_names p r =
        let (into, from) = F.level k e f (all k e E) (all k f G) p r in (
          λ h. form_at t wf is_free tells rep on F all k e f E G ih e refl ∙ level_into t wf is_free tells rep on F all k e f E G ih (shape t e) (shape t f) refl refl (into h) ∙ sym (form_at t wf is_free tells rep on F all k e f E G ih f refl),
          λ h. from (level_from t wf is_free tells rep on F all k e f E G ih (shape t e) (shape t f) refl refl p r (sym (form_at t wf is_free tells rep on F all k e f E G ih e refl) ∙ h ∙ form_at t wf is_free tells rep on F all k e f E G ih f refl)),
        )

  -- with no name bound, a name is as its fixpoint
  none_bound : (e : ℕ) → e < length t → Fit 0 e
  none_bound e l = record { inside = l; enough = omega arith }

  target_fits : (e : ℕ) → Fit 0 e → Fit 0 (target t e)
  target_fits e E = target_by t e (Fit 0) (λ _. E) (λ x q. none_bound x (wf.names_above e x q).1)

  target_number : (e : ℕ) → Fit 0 e → rep 0 e ≡ rep 0 (target t e)
  target_number e E = target_by t e (λ d. rep 0 e ≡ rep 0 d) (λ _. refl) (λ x q. (F.free e x (all 0 e E) q).1)

  target_form : (e : ℕ) → FormOf 0 e ≡ FormOf 0 (target t e)
  target_form e = form_written t wf is_free tells e ∙ written_target t wf e ∙ sym (form_written t wf is_free tells (target t e))

  none_exact : (e f : ℕ) → Upto (size (FormOf 0 e)) → Fit 0 e → Fit 0 f → Exact 0 e f
  none_exact e f ih E G =
      let (into, from) = no_names 0 (target t e) (target t f) (target_fits e E) (target_fits f G)
      (subst (λ (X : Form). Upto (size X)) (target_form e) ih) (target_no_name t wf e) (target_no_name t wf f) in (
        λ h. target_form e ∙ into (sym (target_number e E) ∙ h ∙ target_number f G) ∙ sym (target_form f),
        λ h. target_number e E ∙ from (sym (target_form e) ∙ h ∙ target_form f) ∙ sym (target_number f G),
      )

  -- with names bound, a name is as all names and as nothing else
  abbrev MaybeName : ℕ → Type 0
  MaybeName e = ((x : ℕ) × (shape t e ≡ name x)) ⊎ NoName (shape t e)

  some_exact : (k e f : ℕ) → Upto (size (FormOf (suc k) e)) → Fit (suc k) e → Fit (suc k) f → MaybeName e → MaybeName f → Exact (suc k) e f
  some_exact k e f ih E G (inr p) (inr r) = no_names (suc k) e f E G ih p r
  some_exact k e f ih E G (inl (x, q)) (inl (y, r)) =
      let (z, b) = bound_name t wf is_free tells k e x q E in
      let (_, c) = bound_name t wf is_free tells k f y r G in
      (λ _. b ∙ sym c, λ _. rw z (F.bounds e f x y (all 1 e (rw z at E)) (all 1 f (rw z at G)) q r))
  some_exact k e f ih E G (inl (x, q)) (inr r) =
      let (z, b) = bound_name t wf is_free tells k e x q E in (
        λ h. absurd (F.bound_apart e f x (all 1 e (rw z at E)) (all 1 f (rw z at G)) q r (rw z at h)),
        λ h. absurd (not_bound t wf is_free tells (suc k) f r (sym h ∙ b)),
      )
  some_exact k e f ih E G (inr p) (inl (y, q)) =
      let (z, b) = bound_name t wf is_free tells k f y q G in (
        λ h. absurd (F.bound_apart f e y (all 1 f (rw z at G)) (all 1 e (rw z at E)) q p (sym (rw z at h))),
        λ h. absurd (not_bound t wf is_free tells (suc k) e p (h ∙ b)),
      )

  upto : (n : ℕ) → Upto n
  upto zero k e f h E G = absurd (omega arith)
  upto (suc n) zero e f h E G = none_exact e f (λ i a b l A B. upto n i a b (omega arith) A B) E G
  upto (suc n) (suc k) e f h E G =
      some_exact k e f (λ i a b l A B. upto n i a b (omega arith) A B) E G (name_or_not (shape t e)) (name_or_not (shape t f))

  -- with no name bound, forms are formulas
  pub filled_exact : (e f : ℕ) → e < length t → f < length t → (rep 0 e ≡ rep 0 f) ↔ SameFormula t e f
  filled_exact e f E G =
      let (into, from) = upto (suc (size (FormOf 0 e))) 0 e f (omega arith) (none_bound e E) (none_bound f G) in
      let a = form_written t wf is_free tells e in
      let b = form_written t wf is_free tells f in
      (λ h. sym a ∙ into h ∙ b, λ h. from (a ∙ h ∙ sym b))
