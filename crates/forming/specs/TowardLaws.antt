-- the order in which a fixpoint's iteration goes, and how each connective and the meaning keep it
use Rattle.std.specs.Prelude.{ℕ}
use Rattle.formula.specs.Table.{Table}
use Rattle.formula.specs.Shape.{Two, Step, Fix, mu, nu}
use Rattle.conditions.specs.Free.{Free}
use Rattle.conditions.specs.WellFormed.{WellFormed}
use Rattle.meaning.specs.States.{Model, StateSet, SameStates, two_set, step_set}
use Rattle.meaning.specs.StateLaws.{sub_refl, sub_trans, same_sub, same_sym, two_mono, step_mono, Toward}
use Rattle.meaning.specs.Meaning.{Env, meaning}
use Rattle.meaning.specs.MeaningLaws.{meaning_mono}

module _ (n : ℕ) where
  pub toward_refl : (σ : Fix) (A : StateSet) → Toward n σ A A
  toward_refl mu A = sub_refl A
  toward_refl nu A = sub_refl A

  pub toward_trans : (σ : Fix) (A B C : StateSet) → Toward n σ A B → Toward n σ B C → Toward n σ A C
  toward_trans mu A B C p q = sub_trans p q
  toward_trans nu A B C p q = sub_trans q p

  pub same_toward : (σ : Fix) (A B : StateSet) → SameStates n A B → Toward n σ A B
  same_toward mu A B p = same_sub p
  same_toward nu A B p = same_sub (same_sym p)

  pub toward_two : (σ : Fix) (o : Two) (A B C D : StateSet) → Toward n σ A C → Toward n σ B D → Toward n σ (two_set o A B) (two_set o C D)
  toward_two mu o A B C D p q = two_mono o p q
  toward_two nu o A B C D p q = two_mono o p q

module _ (M : Model) where
  pub toward_step : (σ : Fix) (m : Step) (A B : StateSet) → Toward M.size σ A B → Toward M.size σ (step_set M m A) (step_set M m B)
  toward_step mu m A B p = step_mono M m p
  toward_step nu m A B p = step_mono M m p

  pub toward_meaning : (t : Table) (wf : WellFormed t) (σ : Fix) (e : ℕ) (ρ π : Env) → ((x : ℕ) → Free t e x → Toward M.size σ (ρ x) (π x))
      → Toward M.size σ (meaning M t e ρ) (meaning M t e π)
  toward_meaning t wf mu e ρ π h = meaning_mono M t wf e ρ π h
  toward_meaning t wf nu e ρ π h = meaning_mono M t wf e π ρ h
