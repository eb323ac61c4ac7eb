-- the meaning of an entry where an environment gives each fixpoint's name its set, and of an entry by itself
use Rattle.std.specs.Prelude.{cond, ℕ, zero, suc, ◌-◌, eqb, length}
use Rattle.formula.specs.Table.{Table}
use Rattle.formula.specs.Shape.{Shape, leaf, two, step, fix, name, mu, shape}
use Rattle.meaning.specs.States.{Model, StateSet, leaf_set, two_set, step_set, start}
use Rattle.meaning.specs.Chain.{iter}
use Rattle.formula.specs.Below.{recur}

abbrev pub Env : Type 0
Env = ℕ → StateSet

-- ρ with the set S for the name of e
unfoldable pub put : Env → ℕ → StateSet → Env
put ρ e S x = cond (eqb x e) S (ρ x)

module _ (M : Model) where
  -- the meaning of an entry e of a shape, f giving the meanings of entries below
  unfoldable pub clause : (ℕ → Env → StateSet) → ℕ → Shape → Env → StateSet
  clause f e (leaf l) ρ = leaf_set M l
  clause f e (two o a b) ρ = two_set o (f a ρ) (f b ρ)
  clause f e (step m a) ρ = step_set M m (f a ρ)
  clause f e (fix σ a) ρ = iter (λ S. f a (put ρ e S)) M.size (start σ)
  clause f e (name x) ρ = ρ x

  module _ (t : Table) where
    unfoldable pub meaning : ℕ → Env → StateSet
    unfolding clause
    meaning = recur (λ ρ. start mu) (λ f e. clause f e (shape t e))

    -- one round of the iteration at a fixpoint e with body a
    abbrev pub round : ℕ → ℕ → Env → StateSet → StateSet
    round e a ρ S = meaning a (put ρ e S)

    -- each of the d highest entries at its own meaning
    unfoldable pub owns : ℕ → Env
    owns zero = λ x. start mu
    owns (suc d) = put (owns d) (length t - suc d) (meaning (length t - suc d) (owns d))

    -- entry e by itself
    unfoldable pub own : ℕ → StateSet
    own e = meaning e (owns (length t))
