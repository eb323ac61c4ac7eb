-- the meaning of a box, a mu and a nu, as propositions that a reader can check
use Rattle.std.specs.Prelude.{◌≡◌, ◌↔◌, ℕ}
use Rattle.std.proofs.Math.Bool.{true}
use Rattle.formula.specs.Kind
use Rattle.formula.specs.Table.{Table, entry, kind, action}
use Rattle.formula.specs.Shape.{mu, nu}
use Rattle.formula.specs.ShapeLaws.{box_shape, mu_shape, nu_shape}
use Rattle.conditions.specs.WellFormed.{WellFormed}
use Rattle.meaning.specs.States.{Model, StateSet, Sub, SameStates, Successor}
use Rattle.meaning.specs.Meaning.{Env, clause, meaning, round}
use Rattle.meaning.proofs.FixLaws.{fix_is, mu_least, nu_greatest}
use Rattle.meaning.specs.KindMeaning.{at, every_successor}

-- in a model M over a well-formed table, names set as ρ says, at state s
module _ (M : Model) (t : Table) (wf : WellFormed t) where
  abbrev a_of : ℕ → ℕ
  a_of e = (entry t e).a

  module _ (e : ℕ) (ρ : Env) (s : ℕ) where
    pub box_meaning : kind t e ≡ Kind.BOX → (meaning M t e ρ s ≡ true) ↔ ((u : ℕ) → Successor M (action t e) s u → meaning M t (a_of e) ρ u ≡ true)
    unfolding clause
    box_meaning q = rw (at M t wf e ρ s (box_shape t e q)) (every_successor M (action t e) (meaning M t (a_of e) ρ) s)

  -- a mu's set is its body's, set for its own name, and below every set that holds its body's
  pub mu_meaning : (e : ℕ) (ρ : Env) → kind t e ≡ Kind.MU
      → SameStates M.size (meaning M t e ρ) (round M t e (a_of e) ρ (meaning M t e ρ))
      × ((S : StateSet) → Sub M.size (round M t e (a_of e) ρ S) S → Sub M.size (meaning M t e ρ) S)
  mu_meaning e ρ q = let v = mu_shape t e q in (fix_is M t wf e _ mu v ρ, mu_least M t wf e _ v ρ)

  -- a nu's is its body's too, and above
  pub nu_meaning : (e : ℕ) (ρ : Env) → kind t e ≡ Kind.NU
      → SameStates M.size (meaning M t e ρ) (round M t e (a_of e) ρ (meaning M t e ρ))
      × ((S : StateSet) → Sub M.size S (round M t e (a_of e) ρ S) → Sub M.size S (meaning M t e ρ))
  nu_meaning e ρ q = let v = nu_shape t e q in (fix_is M t wf e _ nu v ρ, nu_greatest M t wf e _ v ρ)
