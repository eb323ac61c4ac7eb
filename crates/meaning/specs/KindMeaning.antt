-- the meaning of each kind but box, mu and nu by its number, what a box asks of successors, and an entry by itself
use Rattle.std.specs.Prelude.{◌≡◌, refl, ◌↔◌, ◌⊎◌, Bool, false, not, ◌&&◌, ◌||◌, ℕ, zero, suc, ◌<◌}
use Rattle.std.proofs.Common.{sym, ap, ◌∙◌, inl, inr, true≢false, arith}
use Rattle.std.proofs.Math.Bool.{true}
use Rattle.std.proofs.lemmas.Bool.{false≢true}
use Rattle.verdict.specs.Tells.{Tells, and_tells, or_tells, if_tells}
use Rattle.formula.specs.Kind
use Rattle.formula.specs.Table.{Table, entry, kind, action}
use Rattle.formula.specs.Shape.{Shape, shape, diamond, box}
use Rattle.formula.specs.ShapeLaws.{false_shape, true_shape, letter_shape, negated_shape, or_shape, and_shape, diamond_shape, name_shape}
use Rattle.conditions.specs.Free.{Free}
use Rattle.conditions.specs.WellFormed.{WellFormed}
use Rattle.conditions.specs.WellFormedLaws.{free_in}
use Rattle.meaning.specs.Truth.{some, or-true, some_false, every_true, all_every}
use Rattle.meaning.specs.States.{Model, StateSet, SameStates, Successor, leaf_set, two_set, step_set}
use Rattle.meaning.specs.StateLaws.{same_sym, same_trans}
use Rattle.meaning.specs.Meaning.{Env, clause, meaning, own}
use Rattle.meaning.specs.MeaningLaws.{meaning_at, meaning_local}
use Rattle.meaning.specs.OwnLaws.{owns_own}

-- a number that passes a test is found below n
some_true : (n : ℕ) (f : ℕ → Bool) → some n f ≡ true → (i : ℕ) × (i < n) × (f i ≡ true)
unfolding some
some_true zero f h = absurd (false≢true h)
some_true (suc n) f h = go (or-true (f 0) _ h) (some_true n (λ i. f (suc i)))
  where
    go : (f 0 ≡ true) ⊎ (some n (λ i. f (suc i)) ≡ true)
        → (some n (λ i. f (suc i)) ≡ true → (i : ℕ) × (i < n) × (f (suc i) ≡ true))
        → (i : ℕ) × (i < suc n) × (f i ≡ true)
    go (inl e) ih = (0, omega arith, e)
    go (inr e) ih = let (i, l, p) = ih e in (suc i, omega arith, p)

true_some : (n : ℕ) (f : ℕ → Bool) (i : ℕ) → i < n → f i ≡ true → some n f ≡ true
true_some n f i l p = go (some n f) refl
  where
    go : (b : Bool) → some n f ≡ b → some n f ≡ true
    go true e = e
    go false e = absurd (true≢false (sym p ∙ some_false n f e i l))

is_true : (b : Bool) → Tells b (b ≡ true)
is_true b = record { says = λ h. h; holds = λ h. h }

not-true : (b : Bool) → (not b ≡ true) ↔ (b ≡ false)
not-true true = (λ h. absurd (false≢true h), λ h. absurd (true≢false h))
not-true false = (λ h. refl, λ h. refl)

-- both directions of what tells
both : {b : Bool} {P : Type 0} → Tells b P → (b ≡ true) ↔ P
both x = (x.says, x.holds)

module _ (M : Model) (n : ℕ) (A : StateSet) (s : ℕ) where
  some_successor : (step_set M (diamond n) A s ≡ true) ↔ ((u : ℕ) × Successor M n s u × (A u ≡ true))
  unfolding step_set
  some_successor = (
    λ h. let (u, l, p) = some_true M.size _ h in let (k, a) = (passes u).says p in (u, (l, k), a),
    λ (u, (l, k), a). true_some M.size _ u l ((passes u).holds (k, a)),
  )
    where
      passes : (u : ℕ) → Tells (M.succ n s u && A u) ((M.succ n s u ≡ true) × (A u ≡ true))
      passes u = and_tells (is_true (M.succ n s u)) (is_true (A u))

  pub every_successor : (step_set M (box n) A s ≡ true) ↔ ((u : ℕ) → Successor M n s u → A u ≡ true)
  unfolding step_set
  every_successor = (
    λ h u (l, k). (passes u).says (every_true M.size _ h u l) k,
    λ f. all_every M.size _ (λ u l. (passes u).holds (λ k. f u (l, k))),
  )
    where
      passes : (u : ℕ) → Tells (not (M.succ n s u) || A u) (M.succ n s u ≡ true → A u ≡ true)
      passes u = if_tells (is_true (M.succ n s u)) (is_true (A u))

-- in a model M over a well-formed table, names set as ρ says, at state s
module _ (M : Model) (t : Table) (wf : WellFormed t) where
  abbrev a_of : ℕ → ℕ
  a_of e = (entry t e).a

  abbrev b_of : ℕ → ℕ
  b_of e = (entry t e).b

  module _ (e : ℕ) (ρ : Env) (s : ℕ) where
    pub at : {v : Shape} → shape t e ≡ v → meaning M t e ρ s ≡ clause M (meaning M t) e v ρ s
    at q = ap (λ (A : StateSet). A s) (meaning_at M t wf e q ρ)

    pub false_meaning : kind t e ≡ Kind.FALSE → meaning M t e ρ s ≡ false
    unfolding clause leaf_set
    false_meaning q = at (false_shape t e q)

    pub true_meaning : kind t e ≡ Kind.TRUE → meaning M t e ρ s ≡ true
    unfolding clause leaf_set
    true_meaning q = at (true_shape t e q)

    pub letter_meaning : kind t e ≡ Kind.LETTER → (meaning M t e ρ s ≡ true) ↔ (M.letter s (a_of e) ≡ true)
    unfolding clause leaf_set
    letter_meaning q = rw (at (letter_shape t e q)) (both (is_true _))

    pub negated_meaning : kind t e ≡ Kind.NEGATED → (meaning M t e ρ s ≡ true) ↔ (M.letter s (a_of e) ≡ false)
    unfolding clause leaf_set
    negated_meaning q = rw (at (negated_shape t e q)) (not-true _)

    pub or_meaning : kind t e ≡ Kind.OR → (meaning M t e ρ s ≡ true) ↔ ((meaning M t (a_of e) ρ s ≡ true) ⊎ (meaning M t (b_of e) ρ s ≡ true))
    unfolding clause two_set
    or_meaning q = rw (at (or_shape t e q)) (both (or_tells (is_true _) (is_true _)))

    pub and_meaning : kind t e ≡ Kind.AND → (meaning M t e ρ s ≡ true) ↔ ((meaning M t (a_of e) ρ s ≡ true) × (meaning M t (b_of e) ρ s ≡ true))
    unfolding clause two_set
    and_meaning q = rw (at (and_shape t e q)) (both (and_tells (is_true _) (is_true _)))

    pub diamond_meaning : kind t e ≡ Kind.DIAMOND → (meaning M t e ρ s ≡ true) ↔ ((u : ℕ) × Successor M (action t e) s u × (meaning M t (a_of e) ρ u ≡ true))
    unfolding clause
    diamond_meaning q = rw (at (diamond_shape t e q)) (some_successor M (action t e) (meaning M t (a_of e) ρ) s)

    pub name_meaning : kind t e ≡ Kind.NAME → meaning M t e ρ s ≡ ρ (a_of e) s
    unfolding clause
    name_meaning q = at (name_shape t e q)

  -- by itself: each free name set to that fixpoint's own meaning
  pub own_meaning : (e : ℕ) (ρ : Env) → ((x : ℕ) → Free t e x → SameStates M.size (ρ x) (own M t x)) → SameStates M.size (own M t e) (meaning M t e ρ)
  unfolding own
  own_meaning e ρ h = meaning_local M t wf e _ ρ (λ x f. same_trans (owns_own M t wf x (free_in t wf f)) (same_sym (h x f)))
