-- the rounds of a fixpoint settle, at the least set (mu) or the greatest (nu) that the body keeps
use Rattle.std.specs.Prelude.{◌≡◌, ℕ, suc}
use Rattle.formula.specs.Table.{Table}
use Rattle.formula.specs.Shape.{fix, Fix, shape}
use Rattle.conditions.specs.WellFormed.{WellFormed}
use Rattle.meaning.specs.States.{Model, StateSet, SameStates, start}
use Rattle.meaning.specs.StateLaws.{Toward, toward_bounded, toward_mono, toward_both, start_first}
use Rattle.meaning.specs.Chain.{iter, settles, below_closed}
use Rattle.meaning.specs.Meaning.{Env, clause, meaning, round}
use Rattle.meaning.specs.MeaningLaws.{meaning_at, round_mono}

module _ (M : Model) (t : Table) (wf : WellFormed t) where
  module _ (e a : ℕ) (σ : Fix) (q : shape t e ≡ fix σ a) (ρ : Env) where
    onward : (A B : StateSet) → Toward M.size σ A B → Toward M.size σ (round M t e a ρ A) (round M t e a ρ B)
    onward = toward_mono M.size σ (round M t e a ρ) (round_mono M t wf e a σ q ρ)

    -- the iteration is settled after as many rounds as there are states
    pub fix_settles : SameStates M.size (iter (round M t e a ρ) M.size (start σ)) (iter (round M t e a ρ) (suc M.size) (start σ))
    fix_settles =
        let (p, r) = settles (toward_bounded M.size σ) (round M t e a ρ) onward (start σ) (start_first M.size σ) in
        toward_both M.size σ _ _ p r

    pub fix_first : (S : StateSet) → Toward M.size σ (round M t e a ρ S) S → Toward M.size σ (meaning M t e ρ) S
    unfolding clause
    fix_first S c =
        rw (meaning_at M t wf e q ρ)
        (below_closed (toward_bounded M.size σ) (round M t e a ρ) onward (start σ) (start_first M.size σ) S c M.size)
