-- the bound names that occur in what is written for an entry are those of the fixpoints on the way to it; an entry's formula has none
use Rattle.std.specs.Prelude.{◌≡◌, ◌⊎◌, List, [], ◌∷◌, ℕ, suc}
use Rattle.std.proofs.Math.Path.{refl}
use Rattle.std.proofs.Common.{inl, inr}
use Rattle.formula.specs.Table.{Table}
use Rattle.formula.specs.Shape.{Shape, leaf, two, step, fix, name, shape, Operand}
use Rattle.formula.specs.Below.{by_smaller}
use Rattle.conditions.specs.Free.{Free, named as by_name, inside}
use Rattle.conditions.specs.WellFormed.{WellFormed}
use Rattle.written.specs.Form.{Form}
use Rattle.written.specs.Written.{clause, spell, written}
use Rattle.written.specs.Binding.{Unbound, BoundAt, bound_or_free, named_bound, named_free}
use Rattle.written.specs.WrittenLaws.{below, by_free, spell_at}
use Rattle.written.proofs.WrittenLaws.{written_law}
use Rattle.written.specs.Closed.{Occurs}

module _ (t : Table) (wf : WellFormed t) where
  -- it is that of a free name of e
  abbrev Binds : ℕ → List ℕ → ℕ → Type 0
  Binds e s i = (x : ℕ) × Free t e x × BoundAt s x i

  module _ (f : ℕ → Form) where
    -- what f writes for the free names that no fixpoint of s binds is closed
    abbrev ClosedAt : ℕ → List ℕ → Type 0
    ClosedAt e s = (x j : ℕ) → Free t e x → Unbound s x → Occurs j (f x) → ⊥

    abbrev Found : ℕ → Type 0
    Found e = (s : List ℕ) (i : ℕ) → ClosedAt e s → Occurs i (spell t f e s) → Binds e s i

    found_step : (e : ℕ) (v : Shape) → shape t e ≡ v → ((c : ℕ) → Operand v c → Found c)
        → (s : List ℕ) (i : ℕ) → ClosedAt e s → Occurs i (clause f (spell t f) e v s) → Binds e s i
    unfolding clause
    found_step e (leaf l) q ih s i c w = absurd w
    found_step e (two o a b) q ih s i c (inl w) =
        let (x, r, z) = ih a (inl refl) s i (λ x j r. c x j (inside _ q (inl refl) absurd r)) w in
        (x, inside _ q (inl refl) absurd r, z)
    found_step e (two o a b) q ih s i c (inr w) =
        let (x, r, z) = ih b (inr refl) s i (λ x j r. c x j (inside _ q (inr refl) absurd r)) w in
        (x, inside _ q (inr refl) absurd r, z)
    found_step e (step m a) q ih s i c w =
        let (x, r, z) = ih a refl s i (λ x j r. c x j (inside _ q refl absurd r)) w in
        (x, inside _ q refl absurd r, z)
    found_step e (fix σ a) q ih s i c w =
        let (x, r, (n, z)) = ih a refl (e ∷ s) (suc i) (λ x j r (n, u). c x j (inside _ q refl (λ _. n) r) u) w in
        (x, inside _ q refl (λ _. n) r, z)
    found_step e (name x) q ih s i c w = go (bound_or_free s x)
      where
        go : ((j : ℕ) × BoundAt s x j) ⊎ Unbound s x → Binds e s i
        go (inl (j, b)) =
            let k : i ≡ j = rw (named_bound f s x j b) at w in
            (x, by_name q, rw k b)
        go (inr u) = absurd (c x i (by_name q) u (rw (named_free f s x u) at w))

    found : (e : ℕ) → Found e
    found = by_smaller Found
        (λ e ih s i c w. found_step e (shape t e) refl (λ d o. ih d (wf.operands_below e d o)) s i c (rw (spell_at t wf f e refl s) at w))

  pub written_closed : (e i : ℕ) → Occurs i (written t e) → ⊥
  written_closed = by_free t wf (λ e. (i : ℕ) → Occurs i (written t e) → ⊥)
      (λ e ih i w. let (x, r, b) = found (written t) e [] i (λ x j r _. ih x r j) (rw (written_law t wf e) at w) in b)

  pub occurs_bound : (e : ℕ) (s : List ℕ) (i : ℕ) → Occurs i (below t e s) → (x : ℕ) × Free t e x × BoundAt s x i
  occurs_bound e s i = found (written t) e s i (λ x j _ _. written_closed x j)
