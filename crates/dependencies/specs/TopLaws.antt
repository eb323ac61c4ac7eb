-- the highest free name is one, and none lies above it
use Rattle.std.specs.Prelude.{◌≡◌, true, false, cond, ltb}
use Rattle.std.proofs.Math.Path.{refl, ap}
use Rattle.std.proofs.Common.{◌∙◌, inl, inr}
use Prim.Native.Nat.{ℕ, ◌<◌, ◌≤◌, max}
use native.Mathlib.Omega.{arith}
use Rattle.std.proofs.Math.Decide.{dec_lt, dec_le}
use borrow.Author.Tests.{lt-ltb, le-ltb, eqb-true, eqb-false}
use Rattle.formula.specs.Table.{Table}
use Rattle.formula.specs.Shape.{Shape, leaf, two, step, fix, name, shape, Operand}
use Rattle.conditions.specs.Free.{Free, named, inside}
use Rattle.conditions.specs.WellFormed.{WellFormed}
use Rattle.formula.specs.Below.{recur_eq, by_smaller}
use Rattle.dependencies.specs.Top.{top_clause, top, alone}

pub top_clause_local : (f g : ℕ → ℕ) (e : ℕ) (v : Shape) → ((c : ℕ) → Operand v c → f c ≡ g c) → top_clause f e v ≡ top_clause g e v
unfolding top_clause
top_clause_local f g e (leaf l) h = refl
top_clause_local f g e (two o a b) h = rw (h a (inl refl), h b (inr refl)) refl
top_clause_local f g e (step m a) h = h a refl
top_clause_local f g e (fix σ a) h = rw (h a refl) refl
top_clause_local f g e (name x) h = refl

module _ (t : Table) (wf : WellFormed t) where
  pub top_at : (e : ℕ) {v : Shape} → shape t e ≡ v → top t e ≡ top_clause (top t) e v
  unfolding top
  top_at e q =
      recur_eq 0 (λ f e. top_clause f e (shape t e)) (λ f g e h. top_clause_local f g e (shape t e) (λ c o. h c (wf.operands_below e c o))) e
      ∙ ap (top_clause (top t) e) q

  inside_top : (e c x : ℕ) (v : Shape) → shape t e ≡ v → Operand v c → Free t e x → x ≤ top t c → x ≤ top_clause (top t) e v
  unfolding top_clause
  inside_top e c x (leaf l) q o f h = absurd o
  inside_top e c x (two p a b) q (inl o) f h = let g : x ≤ top t a = rw o at h in omega arith
  inside_top e c x (two p a b) q (inr o) f h = let g : x ≤ top t b = rw o at h in omega arith
  inside_top e c x (step m a) q o f h = rw o at h
  inside_top e c x (fix σ a) q o f h =
      let g : x ≤ top t a = rw o at h in rw (lt-ltb e (top t a) (omega (arith, wf.free_above e x f))) g
  inside_top e c x (name y) q o f h = absurd o

  pub free_top : {e x : ℕ} → Free t e x → x ≤ top t e
  free_top (named {e = e} {x = x} q) = rw (top_at e q) (unfold top_clause in omega arith)
  free_top (inside {e = e} {c = c} {x = x} v q o k f) = rw (top_at e q) (inside_top e c x v q o (inside v q o k f) (free_top f))

  top_step : (e : ℕ) (v : Shape) → shape t e ≡ v → ((c : ℕ) → Operand v c → 0 < top t c → Free t c (top t c))
      → 0 < top_clause (top t) e v → Free t e (top_clause (top t) e v)
  unfolding top_clause
  top_step e (leaf l) q ih h = absurd (omega arith)
  top_step e (two o a b) q ih h = go (dec_le (top t a) (top t b))
    where
      go : Dec (top t a ≤ top t b) → Free t e (max (top t a) (top t b))
      go (yes l) = let p : max (top t a) (top t b) ≡ top t b = omega arith in rw p (inside _ q (inr refl) absurd (ih b (inr refl) (omega arith)))
      go (no l) = let p : max (top t a) (top t b) ≡ top t a = omega arith in rw p (inside _ q (inl refl) absurd (ih a (inl refl) (omega arith)))
  top_step e (step m a) q ih h = inside _ q refl absurd (ih a refl h)
  top_step e (fix σ a) q ih h = go (dec_lt e (top t a))
    where
      go : Dec (e < top t a) → Free t e (cond (ltb e (top t a)) (top t a) 0)
      go (yes l) = let ne : top t a ≡ e → ⊥ = λ p. omega arith in rw (lt-ltb e (top t a) l) (inside _ q refl (λ _. ne) (ih a refl (omega arith)))
      go (no l) = absurd (let z : 0 < 0 = rw (le-ltb e (top t a) (omega arith)) at h in omega arith)
  top_step e (name x) q ih h = named q

  pub top_free : (e : ℕ) → 0 < top t e → Free t e (top t e)
  top_free = by_smaller (λ e. 0 < top t e → Free t e (top t e))
      (λ e ih h. rw (top_at e refl) (top_step e (shape t e) refl (λ c o. ih c (wf.operands_below e c o)) (rw (top_at e refl) at h)))

  pub alone_none : (e : ℕ) → alone t e ≡ true → (x : ℕ) → Free t e x → ⊥
  unfolding alone
  alone_none e h x f = let p : top t e ≡ 0 = eqb-true (top t e) 0 h in omega (arith, free_top f, wf.free_above e x f)

  pub not_alone : (e : ℕ) → alone t e ≡ false → (x : ℕ) × Free t e x
  unfolding alone
  not_alone e h = let p : top t e ≡ 0 → ⊥ = eqb-false (top t e) 0 h in (top t e, top_free e (omega (arith, p)))
