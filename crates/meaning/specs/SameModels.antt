-- what a table asks of a model, and when two models agree on it
use Rattle.std.specs.Prelude.{◌≡◌}
use Prim.Native.Nat.{ℕ, ◌<◌}
use Rattle.formula.specs.Table.{Table}
use Rattle.formula.specs.Shape.{Shape, leaf, two, step, fix, name, diamond, box, shape}
use Rattle.meaning.specs.States.{Model}

-- a box or a diamond of action n
abbrev pub Acts : Shape → ℕ → Type 0
Acts (leaf l) n = ⊥
Acts (two o a b) n = ⊥
Acts (step (diamond k) a) n = k ≡ n
Acts (step (box k) a) n = k ≡ n
Acts (fix σ a) n = ⊥
Acts (name x) n = ⊥

-- the same size, and of the states below it the same letters and the same successors by each action of the table's boxes and diamonds
pub record Agree (t : Table) (M N : Model) : Type 0 where
  pub size : M.size ≡ N.size
  pub letters : (s p : ℕ) → s < M.size → M.letter s p ≡ N.letter s p
  pub successors : (e n : ℕ) → Acts (shape t e) n → (s u : ℕ) → s < M.size → u < M.size → M.succ n s u ≡ N.succ n s u
