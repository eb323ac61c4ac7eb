-- stage sets: where k steps have not refuted an entry yet
use Rattle.std.specs.Prelude.{ℕ, suc, length}
use Rattle.formula.specs.Table.{Table}
use Rattle.formula.specs.Shape.{Shape, leaf, two, step, fix, name, mu, nu, shape}
use Rattle.meaning.specs.States.{Model, StateSet, leaf_set, two_set, step_set, start}
use Rattle.meaning.specs.Chain.{iter}
use Rattle.meaning.specs.Bounds.{sum}
use Rattle.formula.specs.Below.{recur}
use Rattle.meaning.specs.Meaning.{own}

module _ (M : Model) (t : Table) where
  -- of an entry e of a shape: W has the sets of the stage before, f those of entries below
  unfoldable pub stage_clause : (ℕ → StateSet) → (ℕ → StateSet) → ℕ → Shape → StateSet
  stage_clause W f e (leaf l) = leaf_set M l
  stage_clause W f e (two o a b) = two_set o (f a) (f b)
  stage_clause W f e (step m a) = step_set M m (W a)
  stage_clause W f e (fix mu a) = own M t e
  stage_clause W f e (fix nu a) = f a
  stage_clause W f e (name x) = W x

  unfoldable pub stage : (ℕ → StateSet) → ℕ → StateSet
  unfolding stage_clause
  stage W = recur (start mu) (λ f e. stage_clause W f e (shape t e))

  unfoldable pub stages : ℕ → ℕ → StateSet
  stages k = iter stage k (λ e. start nu)

  -- as many stages as there are pairs of an entry and a state, which is enough
  unfoldable pub enough : ℕ
  enough = sum (length t) (λ _. M.size)

  -- so many steps refute whatever is false
  unfoldable pub rank : ℕ
  rank = suc enough
