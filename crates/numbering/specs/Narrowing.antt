-- two entries below fixpoints are the same just when the same of these bind in both, by their places, and they are the same below those alone
use Rattle.std.specs.Prelude.{◌≡◌, ◌⊎◌, ◌↔◌, Bool, List, [], ◌∷◌, length}
use Rattle.std.proofs.Math.Path.{refl, ap}
use Rattle.std.proofs.Common.{sym, ap₂, subst, ◌∙◌, arith}
use Rattle.std.proofs.Math.Logic.{inl, inr}
use Rattle.std.proofs.Math.Bool.{true, false}
use Rattle.std.proofs.lemmas.Bool.{false≢true}
use Prim.Native.Nat.{ℕ, zero, suc}
use Rattle.verdict.specs.Tests.{keep}
use Rattle.verdict.specs.Tells.{Tells, tells_as, same_test}
use Rattle.formula.specs.Table.{Table}
use Rattle.formula.specs.Shape.{leaf, two, step, fix, name}
use Rattle.conditions.specs.Free.{Free, named as by_name, inside}
use Rattle.conditions.specs.WellFormed.{WellFormed}
use Rattle.written.specs.Form.{Form}
use Rattle.written.specs.Written.{clause, written}
use Rattle.written.specs.Binding.{Unbound, BoundAt, bound_or_free, not_both, named_bound}
use Rattle.written.specs.WrittenLaws.{below, spell_at}
use Rattle.written.specs.Closed.{Occurs}
use Rattle.written.proofs.Closed.{occurs_bound}
use Rattle.numbering.specs.Only.{only, marks, Distinct, only_unbound}
use Rattle.numbering.specs.Renaming.{rename, Moves, below_renamed}

-- from a place in a list to the place among those marked, and back
abbrev narrow : List Bool → ℕ → ℕ
narrow [] i = i
narrow (true ∷ b) zero = zero
narrow (true ∷ b) (suc i) = suc (narrow b i)
narrow (false ∷ b) zero = zero
narrow (false ∷ b) (suc i) = narrow b i

abbrev widen : List Bool → ℕ → ℕ
widen [] j = j
widen (true ∷ b) zero = zero
widen (true ∷ b) (suc j) = suc (widen b j)
widen (false ∷ b) j = suc (widen b j)

module _ (p : ℕ → Bool) where
  -- the place of a name that passes is one of those marked
  Narrows : List ℕ → ℕ → ℕ → Type 0
  Narrows s x i = BoundAt (only p s) x (narrow (marks p s) i) × (widen (marks p s) (narrow (marks p s) i) ≡ i)

  only_bound : (s : List ℕ) (x i : ℕ) → p x ≡ true → BoundAt s x i → Narrows s x i
  unfolding Narrows only marks
  only_bound [] x i h q = elim q [ ]
  only_bound (y ∷ s) x zero h q = go (p y) (ap p (sym q) ∙ h)
    where
      go : (b : Bool) → b ≡ true → BoundAt (keep b y (only p s)) x (narrow (b ∷ marks p s) 0) × (widen (b ∷ marks p s) (narrow (b ∷ marks p s) 0) ≡ 0)
      go true e = (q, refl)
      go false e = absurd (false≢true e)
  only_bound (y ∷ s) x (suc i) h (n, a) = go (p y) (only_bound s x i h a)
    where
      go : (b : Bool) → Narrows s x i
          → BoundAt (keep b y (only p s)) x (narrow (b ∷ marks p s) (suc i)) × (widen (b ∷ marks p s) (narrow (b ∷ marks p s) (suc i)) ≡ suc i)
      go true (z, e) = ((n, z), ap suc e)
      go false (z, e) = (z, ap suc e)

-- place i of s is that of a name that passes
abbrev Hit : (ℕ → Bool) → List ℕ → ℕ → Type 0
Hit p s i = (x : ℕ) × (p x ≡ true) × BoundAt s x i

hit_tells : (p : ℕ → Bool) (y : ℕ) (s : List ℕ) → Tells (p y) (Hit p (y ∷ s) 0)
hit_tells p y s = record { says = λ h. (y, h, refl); holds = λ (x, h, q). ap p (sym q) ∙ h }

hit_past : (p : ℕ → Bool) (y : ℕ) (s : List ℕ) (i : ℕ) → Unbound s y → Hit p s i ↔ Hit p (y ∷ s) (suc i)
hit_past p y s i u = (λ (x, h, a). (x, h, (λ e. not_both s x i a (rw (← e) at u), a)), λ (x, h, (n, a)). (x, h, a))

same_marks : (p q : ℕ → Bool) (s r : List ℕ) → Distinct s → Distinct r → length s ≡ length r
    → ((i : ℕ) → Hit p s i ↔ Hit q r i) → marks p s ≡ marks q r
unfolding marks
same_marks p q [] [] d g l h = refl
same_marks p q [] (z ∷ r) d g l h = absurd (omega arith)
same_marks p q (y ∷ s) [] d g l h = absurd (omega arith)
same_marks p q (y ∷ s) (z ∷ r) (u, d) (w, g) l h =
    ap₂ {C = List Bool} (λ a b. a ∷ b)
    (same_test (hit_tells p y s) (tells_as (h 0).1 (h 0).0 (hit_tells q z r)))
    (same_marks p q s r d g (omega arith) (λ i.
    let (in-s, out_s) = hit_past p y s i u in
    let (in-r, out_r) = hit_past q z r i w in
    (λ k. out_r ((h (suc i)).0 (in-s k)), λ k. out_s ((h (suc i)).1 (in-r k)))))

module _ (t : Table) (wf : WellFormed t) where
  -- a free name that a fixpoint of s binds occurs
  occurs : {e x : ℕ} → Free t e x → (s : List ℕ) (i : ℕ) → BoundAt s x i → Occurs i (below t e s)
  unfolding clause
  occurs (by_name {e = e} {x = x} q) s i a = rw (spell_at t wf (written t) e q s, named_bound (written t) s x i a) refl
  occurs (inside (leaf l) q o k r) s i a = absurd o
  occurs (inside {e = e} (two c b d) q (inl o) k r) s i a = rw (spell_at t wf (written t) e q s) (inl (rw (← o) (occurs r s i a)))
  occurs (inside {e = e} (two c b d) q (inr o) k r) s i a = rw (spell_at t wf (written t) e q s) (inr (rw (← o) (occurs r s i a)))
  occurs (inside {e = e} (step m b) q o k r) s i a = rw (spell_at t wf (written t) e q s) (rw (← o) (occurs r s i a))
  occurs (inside {e = e} (fix σ b) q o k r) s i a = rw (spell_at t wf (written t) e q s) (rw (← o) (occurs r (e ∷ s) (suc i) (k tt, a)))
  occurs (inside (name y) q o k r) s i a = absurd o

  module _ (e : ℕ) (p : ℕ → Bool) (tells : (x : ℕ) → Tells (p x) (Free t e x)) (s : List ℕ) where
    -- e below those of s alone that bind in it, and back
    pub narrowed : below t e (only p s) ≡ rename (narrow (marks p s)) (below t e s)
    unfolding Narrows
    narrowed = below_renamed t wf e (narrow (marks p s)) s (only p s) (λ x r. go x r (bound_or_free s x))
      where
        go : (x : ℕ) → Free t e x → ((i : ℕ) × BoundAt s x i) ⊎ Unbound s x → Moves (narrow (marks p s)) s (only p s) x
        go x r (inl (i, a)) = inr (i, a, (only_bound p s x i ((tells x).holds r) a).0)
        go x r (inr u) = inl (u, only_unbound p s x u)

    widened : below t e s ≡ rename (widen (marks p s)) (below t e (only p s))
    unfolding Narrows
    widened = below_renamed t wf e (widen (marks p s)) (only p s) s (λ x r. go x r (bound_or_free s x))
      where
        go : (x : ℕ) → Free t e x → ((i : ℕ) × BoundAt s x i) ⊎ Unbound s x → Moves (widen (marks p s)) (only p s) s x
        go x r (inl (i, a)) = let (z, k) = only_bound p s x i ((tells x).holds r) a in inr (narrow (marks p s) i, z, rw k a)
        go x r (inr u) = inl (only_unbound p s x u, u)

    hit_occurs : (i : ℕ) → Hit p s i ↔ Occurs i (below t e s)
    hit_occurs i = (
      λ (x, h, a). occurs ((tells x).says h) s i a,
      λ w. let (x, r, a) = occurs_bound t wf e s i w in (x, (tells x).holds r, a),
    )

  module _ (e f : ℕ) (p q : ℕ → Bool) (P : (x : ℕ) → Tells (p x) (Free t e x)) (Q : (x : ℕ) → Tells (q x) (Free t f x))
      (s r : List ℕ) (d : Distinct s) (g : Distinct r) (l : length s ≡ length r) where
    pub same_below : (below t e s ≡ below t f r) ↔ ((marks p s ≡ marks q r) × (below t e (only p s) ≡ below t f (only q r)))
    same_below = (λ h. apart h, λ (m, h). together m h)
      where
        over : {F G : Form} → F ≡ G → (i : ℕ) → Occurs i F → Occurs i G
        over h i = subst (λ (F : Form). Occurs i F) h

        apart : below t e s ≡ below t f r → (marks p s ≡ marks q r) × (below t e (only p s) ≡ below t f (only q r))
        apart h =
            let m = same_marks p q s r d g l (λ i. (
              λ z. (hit_occurs f q Q r i).1 (over h i ((hit_occurs e p P s i).0 z)),
              λ z. (hit_occurs e p P s i).1 (over (sym h) i ((hit_occurs f q Q r i).0 z)),
            )) in
            (m, narrowed e p P s ∙ ap₂ {C = Form} (λ b F. rename (narrow b) F) m h ∙ sym (narrowed f q Q r))

        together : marks p s ≡ marks q r → below t e (only p s) ≡ below t f (only q r) → below t e s ≡ below t f r
        together m h = widened e p P s ∙ ap₂ {C = Form} (λ b F. rename (widen b) F) m h ∙ sym (widened f q Q r)
