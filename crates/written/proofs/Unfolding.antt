-- the body of a fixpoint by itself is the fixpoint unfolded once
use Rattle.std.specs.Prelude.{◌≡◌, Bool}
use Rattle.std.proofs.Math.Path.{refl, ap, ap₂}
use Rattle.std.proofs.Common.{sym, ◌∙◌, inl, inr, arith, eqb-true, eq-eqb, ne_eqb}
use Rattle.std.proofs.Math.Bool.{true, false, cond}
use mathlib.Core.List.{List, [], ◌∷◌, ◌++◌}
use Prim.Native.Nat.{ℕ, suc, ◌+◌}
use Rattle.std.proofs.Math.Dec.{eqb}
use Rattle.std.proofs.Math.ListN.{length}
use Rattle.formula.specs.Table.{Table}
use Rattle.formula.specs.Shape.{Shape, leaf, two, step, fix, name, shape, Operand}
use Rattle.formula.specs.Below.{by_smaller}
use Rattle.conditions.specs.WellFormed.{WellFormed}
use Rattle.written.specs.Form.{Form, atom, pair, modal, bind, bound}
use Rattle.written.specs.Written.{named, clause, written}
use Rattle.written.specs.WrittenLaws.{below, spell_at}
use Rattle.written.proofs.WrittenLaws.{written_law}
use Rattle.written.specs.Closed.{Occurs}
use Rattle.written.proofs.Closed.{written_closed}
use Rattle.written.specs.Unfolding.{inst}

module _ (G : Form) where
  inst_absent : (F : Form) (k : ℕ) → (Occurs k F → ⊥) → inst k G F ≡ F
  unfolding inst
  inst_absent (atom l) k n = refl
  inst_absent (pair o F H) k n = ap₂ {C = Form} (λ A B. pair o A B) (inst_absent F k (λ w. n (inl w))) (inst_absent H k (λ w. n (inr w)))
  inst_absent (modal m F) k n = ap (λ (A : Form). modal m A) (inst_absent F k n)
  inst_absent (bind σ F) k n = ap (λ (A : Form). bind σ A) (inst_absent F (suc k) n)
  inst_absent (bound i) k n = rw (ne_eqb i k (λ q. n (sym q))) refl

module _ (t : Table) (wf : WellFormed t) (e : ℕ) where
  -- e as the outermost fixpoint on the way to a name, or not at all
  named_inst : (x i : ℕ) (s : List ℕ) (k : ℕ) → k ≡ i + length s
      → inst k (written t e) (named (written t) i (s ++ (e ∷ [])) x) ≡ named (written t) i s x
  unfolding named inst
  named_inst x i [] k q = go (eqb x e) refl
    where
      go : (b : Bool) → eqb x e ≡ b → inst k (written t e) (cond b (bound i) (written t x)) ≡ written t x
      go true r = rw (eq-eqb i k (omega arith)) (ap (written t) (sym (eqb-true x e r)))
      go false r = inst_absent (written t e) (written t x) k (written_closed t wf x k)
  named_inst x i (y ∷ s) k q = go (eqb x y) (named_inst x (suc i) s k)
    where
      go : (b : Bool) → (k ≡ suc i + length s → inst k (written t e) (named (written t) (suc i) (s ++ (e ∷ [])) x) ≡ named (written t) (suc i) s x)
          → inst k (written t e) (cond b (bound i) (named (written t) (suc i) (s ++ (e ∷ [])) x)) ≡ cond b (bound i) (named (written t) (suc i) s x)
      go true ih = rw (ne_eqb i k (omega arith)) refl
      go false ih = ih (omega arith)

  -- with e's formula in place of e's bound name, an entry is as if e were no fixpoint on the way to it
  abbrev Unbinds : ℕ → Type 0
  Unbinds c = (s : List ℕ) → inst (length s) (written t e) (below t c (s ++ (e ∷ []))) ≡ below t c s

  unbind_step : (c : ℕ) (v : Shape) → shape t c ≡ v → ((d : ℕ) → Operand v d → Unbinds d) → (s : List ℕ)
      → inst (length s) (written t e) (clause (written t) (below t) c v (s ++ (e ∷ []))) ≡ clause (written t) (below t) c v s
  unfolding clause inst
  unbind_step c (leaf l) q ih s = refl
  unbind_step c (two o a b) q ih s = ap₂ {C = Form} (λ F H. pair o F H) (ih a (inl refl) s) (ih b (inr refl) s)
  unbind_step c (step m a) q ih s = ap (λ (F : Form). modal m F) (ih a refl s)
  unbind_step c (fix σ a) q ih s = ap (λ (F : Form). bind σ F) (ih a refl (c ∷ s))
  unbind_step c (name x) q ih s = named_inst x 0 s (length s) (omega arith)

  unbinds : (c : ℕ) → Unbinds c
  unbinds = by_smaller Unbinds (λ c ih s.
      rw (spell_at t wf (written t) c refl (s ++ (e ∷ [])), spell_at t wf (written t) c refl s)
      (unbind_step c (shape t c) refl (λ d o. ih d (wf.operands_below c d o)) s))

  pub written_body : (a : ℕ) → written t a ≡ inst 0 (written t e) (below t a (e ∷ []))
  written_body a = written_law t wf a ∙ sym (unbinds a [])
