-- the meaning of a mu is the least set that is its body's meaning, that of a nu the greatest
use Rattle.std.specs.Prelude.{◌≡◌, ℕ}
use Rattle.formula.specs.Table.{Table}
use Rattle.formula.specs.Shape.{fix, Fix, mu, nu, shape}
use Rattle.conditions.specs.WellFormed.{WellFormed}
use Rattle.meaning.specs.States.{Model, StateSet, Sub, SameStates}
use Rattle.meaning.specs.Chain.{iter}
use Rattle.meaning.specs.Meaning.{Env, clause, meaning, round}
use Rattle.meaning.specs.MeaningLaws.{meaning_at}
use Rattle.meaning.proofs.FixSettles.{fix_first, fix_settles}

module _ (M : Model) (t : Table) (wf : WellFormed t) where
  module _ (e a : ℕ) (σ : Fix) (q : shape t e ≡ fix σ a) (ρ : Env) where
    pub fix_is : SameStates M.size (meaning M t e ρ) (round M t e a ρ (meaning M t e ρ))
    unfolding iter clause
    fix_is = rw (meaning_at M t wf e q ρ) (fix_settles M t wf e a σ q ρ)

  -- the same in the words of each kind
  pub mu_least : (e a : ℕ) → shape t e ≡ fix mu a → (ρ : Env) (S : StateSet) → Sub M.size (round M t e a ρ S) S → Sub M.size (meaning M t e ρ) S
  mu_least e a q ρ = fix_first M t wf e a mu q ρ

  pub nu_greatest : (e a : ℕ) → shape t e ≡ fix nu a → (ρ : Env) (S : StateSet) → Sub M.size S (round M t e a ρ S) → Sub M.size S (meaning M t e ρ)
  nu_greatest e a q ρ = fix_first M t wf e a nu q ρ
