-- an entry below other fixpoints: where its free names are bound at other places, its bound names are renumbered
use Rattle.std.specs.Prelude.{◌≡◌, ◌≢◌, ◌⊎◌, List, ◌∷◌, ℕ, zero, suc, ◌+◌}
use Rattle.std.proofs.Math.Path.{refl, ap, ap₂}
use Rattle.std.proofs.Common.{sym, inl, inr}
use Rattle.std.proofs.Math.Decide.{ℕ_discrete}
use Rattle.formula.specs.Table.{Table}
use Rattle.formula.specs.Shape.{Shape, leaf, two, step, fix, name, shape, Operand}
use Rattle.formula.specs.Below.{by_smaller}
use Rattle.conditions.specs.Free.{Free, named as by_name, inside}
use Rattle.conditions.specs.WellFormed.{WellFormed}
use Rattle.written.specs.Form.{Form, atom, pair, modal, bind, bound}
use Rattle.written.specs.Written.{named, clause, written}
use Rattle.written.specs.Binding.{Unbound, BoundAt, named_bound, named_free}
use Rattle.written.specs.WrittenLaws.{below, spell_at}
use Rattle.written.specs.Closed.{Occurs}
use Rattle.written.proofs.Closed.{written_closed}

-- the renumbering below one fixpoint more
abbrev pub up : (ℕ → ℕ) → ℕ → ℕ
up ι zero = zero
up ι (suc i) = suc (ι i)

unfoldable pub rename : (ℕ → ℕ) → Form → Form
rename ι (atom l) = atom l
rename ι (pair o F G) = pair o (rename ι F) (rename ι G)
rename ι (modal m F) = modal m (rename ι F)
rename ι (bind σ F) = bind σ (rename (up ι) F)
rename ι (bound i) = bound (ι i)

rename_absent : (ι : ℕ → ℕ) (F : Form) → ((i : ℕ) → Occurs i F → ι i ≡ i) → rename ι F ≡ F
unfolding rename
rename_absent ι (atom l) h = refl
rename_absent ι (pair o F G) h =
    ap₂ {C = Form} (λ A B. pair o A B) (rename_absent ι F (λ i w. h i (inl w))) (rename_absent ι G (λ i w. h i (inr w)))
rename_absent ι (modal m F) h = ap (λ (A : Form). modal m A) (rename_absent ι F h)
rename_absent ι (bind σ F) h = ap (λ (A : Form). bind σ A) (rename_absent (up ι) F further)
  where
    further : (i : ℕ) → Occurs i F → up ι i ≡ i
    further zero w = refl
    further (suc i) w = ap suc (h i w)
rename_absent ι (bound i) h = ap (λ (k : ℕ). bound k) (h i refl)

unfoldable pub size : Form → ℕ
size (atom l) = 1
size (pair o F G) = suc (size F + size G)
size (modal m F) = suc (size F)
size (bind σ F) = suc (size F)
size (bound i) = 1

pub size_rename : (ι : ℕ → ℕ) (F : Form) → size (rename ι F) ≡ size F
unfolding size rename
size_rename ι (atom l) = refl
size_rename ι (pair o F G) = ap₂ {C = ℕ} (λ a b. suc (a + b)) (size_rename ι F) (size_rename ι G)
size_rename ι (modal m F) = ap suc (size_rename ι F)
size_rename ι (bind σ F) = ap suc (size_rename (up ι) F)
size_rename ι (bound i) = refl

-- x is free below both, or bound at places that ι takes one to the other
abbrev pub Moves : (ℕ → ℕ) → List ℕ → List ℕ → ℕ → Type 0
Moves ι s r x = (Unbound s x × Unbound r x) ⊎ ((i : ℕ) × BoundAt s x i × BoundAt r x (ι i))

moves_body : (ι : ℕ → ℕ) (s r : List ℕ) (e x : ℕ) → (x ≢ e → Moves ι s r x) → Moves (up ι) (e ∷ s) (e ∷ r) x
moves_body ι s r e x h = go (ℕ_discrete x e)
  where
    past : x ≢ e → Moves ι s r x → Moves (up ι) (e ∷ s) (e ∷ r) x
    past n (inl (u, w)) = inl ((n, u), (n, w))
    past n (inr (i, a, b)) = inr (suc i, (n, a), (n, b))

    go : Dec (x ≡ e) → Moves (up ι) (e ∷ s) (e ∷ r) x
    go (yes q) = inr (0, q, q)
    go (no n) = past n (h n)

module _ (t : Table) (wf : WellFormed t) where
  abbrev Renames : ℕ → Type 0
  Renames e = (ι : ℕ → ℕ) (s r : List ℕ) → ((x : ℕ) → Free t e x → Moves ι s r x) → below t e r ≡ rename ι (below t e s)

  renames_step : (e : ℕ) (v : Shape) → shape t e ≡ v → ((c : ℕ) → Operand v c → Renames c)
      → (ι : ℕ → ℕ) (s r : List ℕ) → ((x : ℕ) → Free t e x → Moves ι s r x)
      → clause (written t) (below t) e v r ≡ rename ι (clause (written t) (below t) e v s)
  unfolding clause rename
  renames_step e (leaf l) q ih ι s r h = refl
  renames_step e (two o a b) q ih ι s r h =
      ap₂ {C = Form} (λ F G. pair o F G)
      (ih a (inl refl) ι s r (λ x k. h x (inside _ q (inl refl) absurd k)))
      (ih b (inr refl) ι s r (λ x k. h x (inside _ q (inr refl) absurd k)))
  renames_step e (step m a) q ih ι s r h = ap (λ (F : Form). modal m F) (ih a refl ι s r (λ x k. h x (inside _ q refl absurd k)))
  renames_step e (fix σ a) q ih ι s r h =
      ap (λ (F : Form). bind σ F)
      (ih a refl (up ι) (e ∷ s) (e ∷ r) (λ x k. moves_body ι s r e x (λ n. h x (inside _ q refl (λ _. n) k))))
  renames_step e (name x) q ih ι s r h = go (h x (by_name q))
    where
      go : Moves ι s r x → named (written t) 0 r x ≡ rename ι (named (written t) 0 s x)
      go (inl (u, w)) =
          rw (named_free (written t) r x w, named_free (written t) s x u)
          (sym (rename_absent ι (written t x) (λ i o. absurd (written_closed t wf x i o))))
      go (inr (i, a, b)) = rw (named_bound (written t) r x (ι i) b, named_bound (written t) s x i a) refl

  pub below_renamed : (e : ℕ) (ι : ℕ → ℕ) (s r : List ℕ) → ((x : ℕ) → Free t e x → Moves ι s r x) → below t e r ≡ rename ι (below t e s)
  below_renamed = by_smaller Renames (λ e ih ι s r h.
      rw (spell_at t wf (written t) e refl r, spell_at t wf (written t) e refl s)
      (renames_step e (shape t e) refl (λ d o. ih d (wf.operands_below e d o)) ι s r h))
