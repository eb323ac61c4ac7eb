-- one level of entries: where the numbers of the operands are right, those of the entries are
use Rattle.std.specs.Prelude.{◌≡◌, ◌↔◌, Bool, length}
use Rattle.std.proofs.Math.Path.{refl}
use Rattle.std.proofs.Common.{sym, ap, ap₂, subst, ◌∙◌, inl, inr, suc-ne-zero, arith}
use mathlib.Core.List.{List, ◌∷◌}
use Prim.Native.Nat.{ℕ, suc, ◌<◌}
use Rattle.verdict.specs.Tells.{Tells}
use Rattle.formula.specs.Table.{Table}
use Rattle.formula.specs.Shape.{Shape, leaf, two, step, fix, name, Step, Fix, shape, Operand, Fixpoint, NoName}
use Rattle.conditions.specs.Free.{Free}
use Rattle.conditions.specs.WellFormed.{WellFormed}
use Rattle.written.specs.Form.{Form, pair, modal, bind}
use Rattle.written.specs.Written.{clause, written}
use Rattle.written.specs.WrittenLaws.{below, spell_at}
use Rattle.numbering.specs.Renaming.{size, size_rename}
use Rattle.numbering.specs.Only.{only, marks, same_count, all_marks}
use Rattle.numbering.specs.Narrowing.{narrowed, same_below}
use Rattle.numbering.specs.Forms.{within, scope, form, Fits, in_operand, Scoped, scope_length}
use Rattle.numbering.specs.Forms.{operand_scoped, step_free, step_scoped, body_free, body_scoped}
use Rattle.numbering.specs.Filled.{Numbers, places, Level, Filled}

module _ (t : Table) (wf : WellFormed t) (is_free : ℕ → ℕ → Bool) (tells : (e x : ℕ) → Tells (is_free e x) (Free t e x))
    (rep : Numbers) (on : ℕ → ℕ → Type 0) (F : Filled t is_free rep on) (all : (k e : ℕ) → Fits t is_free k e → on k e) where
  abbrev Scope : ℕ → ℕ → List ℕ
  Scope k e = scope t is_free k e

  abbrev FormOf : ℕ → ℕ → Form
  FormOf k e = form t is_free k e

  abbrev Fit : ℕ → ℕ → Type 0
  Fit k e = Fits t is_free k e

  abbrev Exact : ℕ → ℕ → ℕ → Type 0
  Exact k e f = (rep k e ≡ rep k f) ↔ (FormOf k e ≡ FormOf k f)

  -- numbers tell forms smaller than n
  abbrev Upto : ℕ → Type 0
  Upto n = (k e f : ℕ) → size (FormOf k e) < n → Fit k e → Fit k f → Exact k e f

  -- operands or bodies a and c below fixpoints s and r
  module _ (n : ℕ) (ih : Upto n) (a c : ℕ) (s r : List ℕ) (i j : ℕ) (A : Scoped t is_free a s i) (C : Scoped t is_free c r j)
      (equally : length s ≡ length r) (smaller : size (below t a s) < n) where
    a_form : below t a (only (is_free a) s) ≡ FormOf i a
    a_form = ap (below t a) A.least

    small : size (FormOf i a) < n
    small =
        let z = ap size (sym a_form ∙ narrowed t wf a (is_free a) (tells a) s) ∙ size_rename _ (below t a s) in
        omega arith

    as_many : marks (is_free a) s ≡ marks (is_free c) r → j ≡ i
    as_many m =
        sym (scope_length t wf is_free tells j c C.fits) ∙ ap length (sym C.least)
        ∙ sym (same_count (is_free a) (is_free c) s r m) ∙ ap length A.least ∙ scope_length t wf is_free tells i a A.fits

    c_form : j ≡ i → below t c (only (is_free c) r) ≡ FormOf i c
    c_form q = ap (below t c) C.least ∙ ap (λ (k : ℕ). FormOf k c) q

    smaller_exact : j ≡ i → Exact i a c
    smaller_exact q = ih i a c small A.fits (subst (λ (k : ℕ). Fit k c) q C.fits)

    part_same : (below t a s ≡ below t c r) ↔ ((marks (is_free a) s ≡ marks (is_free c) r) × (rep i a ≡ rep i c))
    part_same =
        let (apart, together) = same_below t wf a c (is_free a) (is_free c) (tells a) (tells c) s r A.distinct C.distinct equally in (
          λ h. let (m, g) = apart h in let q = as_many m in (m, (smaller_exact q).1 (sym a_form ∙ g ∙ c_form q)),
          λ (m, h). let q = as_many m in together (m, a_form ∙ (smaller_exact q).0 h ∙ sym (c_form q)),
        )

  module _ (k e f : ℕ) (E : Fit k e) (G : Fit k f) (ih : Upto (size (FormOf k e))) where
    -- a form by the shape of its entry
    pub Shaped : ℕ → Shape → Form
    Shaped d v = clause (written t) (below t) d v (Scope k d)

    pub form_at : (d : ℕ) {v : Shape} → shape t d ≡ v → FormOf k d ≡ Shaped d v
    unfolding Shaped
    form_at d q = spell_at t wf (written t) d q (Scope k d)

    as_long : length (Scope k e) ≡ length (Scope k f)
    as_long = scope_length t wf is_free tells k e E ∙ sym (scope_length t wf is_free tells k f G)

    operands_same : (a c : ℕ) (v w : Shape) → shape t e ≡ v → shape t f ≡ w → Operand v a → Operand w c → (Fixpoint v → ⊥) → (Fixpoint w → ⊥)
        → size (below t a (Scope k e)) < size (FormOf k e)
        → (below t a (Scope k e) ≡ below t c (Scope k f))
        ↔ ((places t is_free a k e ≡ places t is_free c k f) × (rep (in_operand t is_free a k e) a ≡ rep (in_operand t is_free a k e) c))
    operands_same a c v w u z o p m n =
        part_same (size (FormOf k e)) ih a c (Scope k e) (Scope k f) _ _
        (operand_scoped t wf is_free tells e a v u o m k E) (operand_scoped t wf is_free tells f c w z p n k G) as_long

    steps_same : (a c : ℕ) (m n : Step) → shape t e ≡ step m a → shape t f ≡ step n c
        → size (below t a (Scope k e)) < size (FormOf k e) → (below t a (Scope k e) ≡ below t c (Scope k f)) ↔ (rep k a ≡ rep k c)
    steps_same a c m n u w small =
        let (apart, together) = part_same (size (FormOf k e)) ih a c (Scope k e) (Scope k f) k k
        (step_scoped t wf is_free tells e a m u k E) (step_scoped t wf is_free tells f c n w k G) as_long small in
        let marked = all_marks (is_free a) (is_free c) (Scope k e) (Scope k f)
        (step_free t wf is_free tells e a m u k) (step_free t wf is_free tells f c n w k) as_long in
        (λ h. (apart h).1, λ h. together (marked, h))

    bodies_same : (a c : ℕ) (σ τ : Fix) → shape t e ≡ fix σ a → shape t f ≡ fix τ c
        → size (below t a (e ∷ Scope k e)) < size (FormOf k e)
        → (below t a (e ∷ Scope k e) ≡ below t c (f ∷ Scope k f))
        ↔ ((is_free a e ≡ is_free c f) × (rep (within (is_free a e) k) a ≡ rep (within (is_free a e) k) c))
    unfolding marks
    bodies_same a c σ τ u w small =
        let (apart, together) = part_same (size (FormOf k e)) ih a c (e ∷ Scope k e) (f ∷ Scope k f) _ _
        (body_scoped t wf is_free tells e a σ u k E) (body_scoped t wf is_free tells f c τ w k G) (ap suc as_long) small in
        let marked = all_marks (is_free a) (is_free c) (Scope k e) (Scope k f)
        (body_free t wf is_free tells e a σ u k) (body_free t wf is_free tells f c τ w k) as_long in
        (λ h. let (m, q) = apart h in (cc, q), λ (b, h). together (ap₂ {C = List Bool} (λ x l. x ∷ l) b marked, h))

    pub level_into : (v w : Shape) → shape t e ≡ v → shape t f ≡ w → Level t is_free rep k e f v w → Shaped e v ≡ Shaped f w
    unfolding Shaped clause size
    level_into (leaf l) w u q h = rw h refl
    level_into (two o a b) w u q (c, d, z, m, n, r, s) =
        let g : shape t f ≡ two o c d = q ∙ z in
        rw z (ap₂ {C = Form} (λ X Y. pair o X Y)
        ((operands_same a c (two o a b) (two o c d) u g (inl refl) (inl refl) absurd absurd (rw (form_at e u) (omega arith))).1 (m, r))
        ((operands_same b d (two o a b) (two o c d) u g (inr refl) (inr refl) absurd absurd (rw (form_at e u) (omega arith))).1 (n, s)))
    level_into (step m a) w u q (c, z, r) =
        rw z (ap (λ (X : Form). modal m X) ((steps_same a c m m u (q ∙ z) (rw (form_at e u) (omega arith))).1 r))
    level_into (fix σ a) w u q (c, z, b, r) =
        rw z (ap (λ (X : Form). bind σ X) ((bodies_same a c σ σ u (q ∙ z) (rw (form_at e u) (omega arith))).1 (b, r)))
    level_into (name x) w u q h = absurd h

    pub level_from : (v w : Shape) → shape t e ≡ v → shape t f ≡ w → NoName v → NoName w → Shaped e v ≡ Shaped f w → Level t is_free rep k e f v w
    unfolding Shaped clause size
    level_from (leaf l) (leaf i) u q p r h = cc
    level_from (leaf l) (two o c d) u q p r h = absurd (suc-ne-zero 0 cc)
    level_from (leaf l) (step n c) u q p r h = absurd (suc-ne-zero 0 cc)
    level_from (leaf l) (fix τ c) u q p r h = absurd (suc-ne-zero 0 cc)
    level_from (leaf l) (name y) u q p r h = absurd r
    level_from (two o a b) (leaf i) u q p r h = absurd (suc-ne-zero 0 cc)
    level_from (two o a b) (two i c d) u q p r h =
        let (m, x) = (operands_same a c (two o a b) (two i c d) u q (inl refl) (inl refl) absurd absurd (rw (form_at e u) (omega arith))).0 cc in
        let (n, y) = (operands_same b d (two o a b) (two i c d) u q (inr refl) (inr refl) absurd absurd (rw (form_at e u) (omega arith))).0 cc in
        (c, d, cc, m, n, x, y)
    level_from (two o a b) (step n c) u q p r h = absurd (suc-ne-zero 0 cc)
    level_from (two o a b) (fix τ c) u q p r h = absurd (suc-ne-zero 0 cc)
    level_from (two o a b) (name y) u q p r h = absurd r
    level_from (step m a) (leaf i) u q p r h = absurd (suc-ne-zero 0 cc)
    level_from (step m a) (two o c d) u q p r h = absurd (suc-ne-zero 0 cc)
    level_from (step m a) (step n c) u q p r h = (c, cc, (steps_same a c m n u q (rw (form_at e u) (omega arith))).0 cc)
    level_from (step m a) (fix τ c) u q p r h = absurd (suc-ne-zero 0 cc)
    level_from (step m a) (name y) u q p r h = absurd r
    level_from (fix σ a) (leaf i) u q p r h = absurd (suc-ne-zero 0 cc)
    level_from (fix σ a) (two o c d) u q p r h = absurd (suc-ne-zero 0 cc)
    level_from (fix σ a) (step n c) u q p r h = absurd (suc-ne-zero 0 cc)
    level_from (fix σ a) (fix τ c) u q p r h =
        let (b, x) = (bodies_same a c σ τ u q (rw (form_at e u) (omega arith))).0 cc in
        (c, cc, b, x)
    level_from (fix σ a) (name y) u q p r h = absurd r
    level_from (name x) w u q p r h = absurd p
