-- the highest free name of an entry of a well-formed table, 0 where it has none
use Rattle.std.specs.Prelude.{Bool, cond, ℕ, max, eqb, ltb}
use Rattle.formula.specs.Table.{Table}
use Rattle.formula.specs.Shape.{Shape, leaf, two, step, fix, name, shape}
use Rattle.formula.specs.Below.{recur}

unfoldable pub top_clause : (ℕ → ℕ) → ℕ → Shape → ℕ
top_clause f e (leaf l) = 0
top_clause f e (two o a b) = max (f a) (f b)
top_clause f e (step m a) = f a
top_clause f e (fix σ a) = cond (ltb e (f a)) (f a) 0
top_clause f e (name x) = x

unfoldable pub top : Table → ℕ → ℕ
unfolding top_clause
top t = recur 0 (λ f e. top_clause f e (shape t e))

-- has it no free name
unfoldable pub alone : Table → ℕ → Bool
alone t e = eqb (top t e) 0
