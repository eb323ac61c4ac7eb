-- an entry's formula by the shape of the entry and by the formulas of its free names; replacing them comes to an end
use Rattle.std.specs.Prelude.{◌≡◌, length}
use Rattle.std.proofs.Math.Path.{refl, sym, ap, ap₂}
use Rattle.std.proofs.Common.{◌∙◌, arith}
use mathlib.Core.List.{List, []}
use Prim.Native.Nat.{ℕ, zero, suc, ◌+◌, ◌<◌, ◌≤◌}
use Rattle.formula.specs.Table.{Table}
use Rattle.formula.specs.Shape.{Shape, leaf, two, step, fix, name, shape}
use Rattle.formula.specs.Target.{target}
use Rattle.formula.specs.TableLaws.{target_by}
use Rattle.formula.specs.Below.{by_smaller}
use Rattle.conditions.specs.Free.{Free}
use Rattle.conditions.specs.WellFormed.{WellFormed}
use Rattle.conditions.specs.WellFormedLaws.{free_in}
use Rattle.written.specs.Form.{Form, pair, modal}
use Rattle.written.specs.Written.{named, clause, spell, replaced, written}
use Rattle.written.specs.Binding.{Unbound}
use Rattle.written.specs.WrittenLaws.{below, local_step, shaped, spell_at}

module _ (t : Table) (wf : WellFormed t) where
  -- f and g write the same for the free names of e that no fixpoint of s binds
  abbrev Agree : (ℕ → Form) → (ℕ → Form) → ℕ → List ℕ → Type 0
  Agree f g e s = (x : ℕ) → Free t e x → Unbound s x → f x ≡ g x

  abbrev Local : (ℕ → Form) → (ℕ → Form) → ℕ → Type 0
  Local f g e = (s : List ℕ) → Agree f g e s → spell t f e s ≡ spell t g e s

  spell_local : (f g : ℕ → Form) (e : ℕ) → Local f g e
  spell_local f g = by_smaller (Local f g)
      (λ e ih s h. spell_at t wf f e refl s ∙ local_step t wf f g e (shape t e) refl (λ c o. ih c (wf.operands_below e c o)) s h ∙ sym (spell_at t wf g e refl s))

  -- any two numbers of replacements that reach the end of the table agree
  enough : (d k e : ℕ) → e < length t → length t ≤ e + d → length t ≤ e + k → replaced t d e ≡ replaced t k e
  unfolding replaced
  enough zero k e i h l = absurd (omega arith)
  enough (suc d) zero e i h l = absurd (omega arith)
  enough (suc d) (suc k) e i h l =
      spell_local (replaced t d) (replaced t k) e []
      (λ x r _. let up = wf.free_above e x r in enough d k x (free_in t wf r) (omega arith) (omega arith))

  -- what is written for a free name is its fixpoint's formula
  pub written_law : (e : ℕ) → written t e ≡ below t e []
  unfolding written replaced
  written_law e =
      spell_local (replaced t (length t)) (written t) e []
      (λ x r _. enough (length t) (suc (length t)) x (free_in t wf r) (omega arith) (omega arith))

  written_at : (e : ℕ) {v : Shape} → shape t e ≡ v → written t e ≡ clause (written t) (below t) e v []
  written_at e q = written_law e ∙ spell_at t wf (written t) e q []

  written_name : (e x : ℕ) → shape t e ≡ name x → written t e ≡ written t x
  unfolding clause named
  written_name e x q = written_at e q

  pub written_target : (e : ℕ) → written t e ≡ written t (target t e)
  written_target e = target_by t e (λ d. written t e ≡ written t d) (λ _. refl) (written_name e)

  pub written_shape : (e : ℕ) (v : Shape) → shape t e ≡ v → written t e ≡ shaped t wf e v
  unfolding shaped clause named
  written_shape e (leaf l) q = written_at e q
  written_shape e (two o a b) q =
      written_at e q ∙ ap₂ {C = Form} (λ F G. pair o F G) (sym (written_law a) ∙ written_target a) (sym (written_law b) ∙ written_target b)
  written_shape e (step m a) q = written_at e q ∙ ap (λ (F : Form). modal m F) (sym (written_law a) ∙ written_target a)
  written_shape e (fix σ a) q = written_at e q
  written_shape e (name x) q = written_at e q
