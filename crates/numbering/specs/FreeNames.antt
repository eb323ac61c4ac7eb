-- the free names of an entry by its shape
use Rattle.std.specs.Prelude.{◌≡◌, refl, ◌≢◌, ◌⊎◌, ℕ}
use Rattle.std.proofs.Common.{subst, inl, inr}
use Rattle.formula.specs.Table.{Table}
use Rattle.formula.specs.Shape.{Shape, leaf, two, step, fix, name, shape, Operand, Fixpoint}
use Rattle.conditions.specs.Free.{Free, named, inside}

module _ (t : Table) where
  -- x is a free name of an entry e of a shape
  abbrev pub FreeBy : ℕ → Shape → ℕ → Type 0
  FreeBy e (leaf l) x = ⊥
  FreeBy e (two o a b) x = Free t a x ⊎ Free t b x
  FreeBy e (step m a) x = Free t a x
  FreeBy e (fix σ a) x = (x ≢ e) × Free t a x
  FreeBy e (name y) x = x ≡ y

  through : (e c x : ℕ) (v : Shape) → Operand v c → (Fixpoint v → x ≢ e) → Free t c x → FreeBy e v x
  through e c x (leaf l) o n f = absurd o
  through e c x (two u a b) (inl o) n f = inl (rw o at f)
  through e c x (two u a b) (inr o) n f = inr (rw o at f)
  through e c x (step m a) o n f = rw o at f
  through e c x (fix σ a) o n f = (n tt, rw o at f)
  through e c x (name y) o n f = absurd o

  pub free_by : {e x : ℕ} {v : Shape} → shape t e ≡ v → Free t e x → FreeBy e v x
  free_by {e} {x} q f = subst (λ (u : Shape). FreeBy e u x) q (go f)
    where
      go : {e x : ℕ} → Free t e x → FreeBy e (shape t e) x
      go (named {e = e} {x = x} r) = rw r refl
      go (inside {e = e} {c = c} {x = x} v r o n g) = rw r (through e c x v o n g)
