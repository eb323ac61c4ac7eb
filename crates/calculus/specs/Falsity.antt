-- what soundness asks of a model: where entries by themselves are false, and how many modal steps refute them there
use Rattle.std.specs.Prelude.{◌≡◌, ◌⊎◌, true, false, ℕ, suc, ◌<◌}
use Rattle.meaning.specs.States.{Model, Successor}
use Rattle.formula.specs.Kind
use Rattle.formula.specs.Table.{Table, entry, kind, action}
use Rattle.formula.specs.Codes.{Formula}
use Rattle.formula.specs.Target.{target_a, target_b}
use Rattle.written.specs.Written.{SameFormula}

-- a property of entries and states
abbrev pub Family : Type 1
Family = ℕ → ℕ → Type 0

-- Here passes from an entry to its targets, Next after a modal step
pub record Passes (t : Table) (m : Model) (Here Next : Family) : Type 0 where
  pub or : (e s : ℕ) → s < m.size → kind t e ≡ Kind.OR → Here e s → Here (target_a t e) s × Here (target_b t e) s
  pub and : (e s : ℕ) → s < m.size → kind t e ≡ Kind.AND → Here e s → Here (target_a t e) s ⊎ Here (target_b t e) s
  pub nu : (e s : ℕ) → s < m.size → kind t e ≡ Kind.NU → Here e s → Here (target_a t e) s
  pub box : (e s : ℕ) → s < m.size → kind t e ≡ Kind.BOX → Here e s → (u : ℕ) × Successor m (action t e) s u × Next (target_a t e) u
  pub diamond : (e s : ℕ) → s < m.size → kind t e ≡ Kind.DIAMOND → Here e s → (u : ℕ) → Successor m (action t e) s u → Next (target_a t e) u

-- refuted with one step less
abbrev pub OneLess : (ℕ → Family) → ℕ → Family
OneLess Refuted j e s = (i : ℕ) × (j ≡ suc i) × Refuted i e s

-- laws of false_at (an entry by itself is false at a state) and of Refuted (so many modal steps refute it there)
pub record Falsity (t : Table) (m : Model) : Type 1 where
  pub false_at : Family
  pub Refuted : ℕ → Family
  pub false_passes : Passes t m false_at false_at
  pub refuted_passes : (j : ℕ) → Passes t m (Refuted j) (OneLess Refuted j)
  pub true_false : (e s : ℕ) → s < m.size → kind t e ≡ Kind.TRUE → false_at e s → ⊥
  pub letter_false : (e s : ℕ) → s < m.size → kind t e ≡ Kind.LETTER → false_at e s → m.letter s (entry t e).a ≡ false
  pub negated_false : (e s : ℕ) → s < m.size → kind t e ≡ Kind.NEGATED → false_at e s → m.letter s (entry t e).a ≡ true
  pub mu_false : (e s : ℕ) → s < m.size → kind t e ≡ Kind.MU → false_at e s → false_at (target_a t e) s
  pub refuted_false : (j e s : ℕ) → s < m.size → Refuted j e s → false_at e s
  pub more_steps : (j e s : ℕ) → Refuted j e s → Refuted (suc j) e s
  pub complete : (e s : ℕ) → s < m.size → Formula t e → false_at e s → (j : ℕ) × Refuted j e s
  -- both go by the formula, and so does what a box is about
  pub false_like : (e f s : ℕ) → s < m.size → SameFormula t e f → false_at e s → false_at f s
  pub refuted_like : (j e f s : ℕ) → s < m.size → Formula t f → SameFormula t e f → Refuted j e s → Refuted j f s
  pub box_like : (e f : ℕ) → kind t e ≡ Kind.BOX → Formula t f → SameFormula t e f → SameFormula t (target_a t e) (target_a t f)
