-- what is written for an entry goes by the entry's shape and by the formulas of its free names
use Rattle.std.specs.Prelude.{◌≡◌, ◌⊎◌, length}
use Rattle.std.proofs.Math.Path.{refl, sym, ap, ap₂}
use Rattle.std.proofs.Common.{◌∙◌, inl, inr, arith}
use mathlib.Core.List.{List, [], ◌∷◌}
use Prim.Native.Nat.{ℕ, ◌<◌}
use Rattle.std.proofs.Math.Decide.{dec_lt}
use Rattle.formula.specs.Table.{Table}
use Rattle.formula.specs.Shape.{Shape, leaf, two, step, fix, name, never, shape, Operand}
use Rattle.formula.specs.Target.{target}
use Rattle.formula.specs.Below.{recur_eq, by_larger}
use Rattle.conditions.specs.Free.{Free, named as by_name, inside}
use Rattle.conditions.specs.WellFormed.{WellFormed}
use Rattle.conditions.specs.WellFormedLaws.{free_in}
use Rattle.written.specs.Form.{Form, atom, pair, modal, bind}
use Rattle.written.specs.Written.{named, clause, spell, written}
use Rattle.written.specs.Binding.{Unbound, BoundAt, bound_or_free, named_bound, named_free}

-- entry e below the fixpoints s
abbrev pub below : Table → ℕ → List ℕ → Form
below t e s = spell t (written t) e s

clause_local : (f : ℕ → Form) (g h : ℕ → List ℕ → Form) (e : ℕ) (v : Shape) → ((c : ℕ) → Operand v c → g c ≡ h c) → clause f g e v ≡ clause f h e v
unfolding clause
clause_local f g h e (leaf l) k = refl
clause_local f g h e (two o a b) k = λ i s. pair o (k a (inl refl) i s) (k b (inr refl) i s)
clause_local f g h e (step m a) k = λ i s. modal m (k a refl i s)
clause_local f g h e (fix σ a) k = λ i s. bind σ (k a refl i (e ∷ s))
clause_local f g h e (name x) k = refl

module _ (t : Table) (wf : WellFormed t) where
  -- what holds of an entry if it holds of its free names holds of all entries: free names lie above
  pub by_free : (P : ℕ → Type 0) → ((e : ℕ) → ((x : ℕ) → Free t e x → P x) → P e) → (e : ℕ) → P e
  by_free P one e = go (dec_lt e (length t))
    where
      from_above : (e : ℕ) → ((x : ℕ) → e < x → x < length t → P x) → P e
      from_above e ih = one e (λ x r. ih x (wf.free_above e x r) (free_in t wf r))

      go : Dec (e < length t) → P e
      go (yes l) = by_larger P (length t) (λ d _ ih. from_above d ih) e l
      go (no n) = from_above e (λ x g l. absurd (omega arith))

  pub spell_at : (f : ℕ → Form) (e : ℕ) {v : Shape} → shape t e ≡ v → (s : List ℕ) → spell t f e s ≡ clause f (spell t f) e v s
  unfolding spell
  spell_at f e {v} q s =
      ap (λ (F : List ℕ → Form). F s)
      (recur_eq (λ s. atom never) (λ g e. clause f g e (shape t e))
      (λ g h e k. clause_local f g h e (shape t e) (λ c o. k c (wf.operands_below e c o))) e)
      ∙ ap (λ (u : Shape). clause f (spell t f) e u s) q

  -- f and g write the same for the free names of e that no fixpoint of s binds
  abbrev Agree : (ℕ → Form) → (ℕ → Form) → ℕ → List ℕ → Type 0
  Agree f g e s = (x : ℕ) → Free t e x → Unbound s x → f x ≡ g x

  abbrev Local : (ℕ → Form) → (ℕ → Form) → ℕ → Type 0
  Local f g e = (s : List ℕ) → Agree f g e s → spell t f e s ≡ spell t g e s

  pub local_step : (f g : ℕ → Form) (e : ℕ) (v : Shape) → shape t e ≡ v → ((c : ℕ) → Operand v c → Local f g c)
      → (s : List ℕ) → Agree f g e s → clause f (spell t f) e v s ≡ clause g (spell t g) e v s
  unfolding clause
  local_step f g e (leaf l) q ih s h = refl
  local_step f g e (two o a b) q ih s h =
      ap₂ {C = Form} (λ F G. pair o F G)
      (ih a (inl refl) s (λ x r. h x (inside _ q (inl refl) absurd r)))
      (ih b (inr refl) s (λ x r. h x (inside _ q (inr refl) absurd r)))
  local_step f g e (step m a) q ih s h = ap (λ (F : Form). modal m F) (ih a refl s (λ x r. h x (inside _ q refl absurd r)))
  local_step f g e (fix σ a) q ih s h =
      ap (λ (F : Form). bind σ F) (ih a refl (e ∷ s) (λ x r (n, u). h x (inside _ q refl (λ _. n) r) u))
  local_step f g e (name x) q ih s h = go (bound_or_free s x)
    where
      go : ((i : ℕ) × BoundAt s x i) ⊎ Unbound s x → named f 0 s x ≡ named g 0 s x
      go (inl (i, b)) = named_bound f s x i b ∙ sym (named_bound g s x i b)
      go (inr u) = named_free f s x u ∙ h x (by_name q) u ∙ sym (named_free g s x u)

  -- the formula that a shape makes of its targets' formulas; the body of a fixpoint is read below it
  unfoldable pub shaped : ℕ → Shape → Form
  shaped e (leaf l) = atom l
  shaped e (two o a b) = pair o (written t (target t a)) (written t (target t b))
  shaped e (step m a) = modal m (written t (target t a))
  shaped e (fix σ a) = bind σ (below t a (e ∷ []))
  shaped e (name x) = written t x
