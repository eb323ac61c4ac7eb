-- what an evaluation writes: one word for each entry, bit s for state s and all bits past the last state zero
use Rattle.std.specs.Prelude.{List, ℕ, zero, suc, ◌+◌, ◌*◌, length}
use Rattle.verdict.specs.Lists.{values_from}
use Rattle.formula.specs.Table.{Table}
use Rattle.formula.specs.Shape.{shape}
use Rattle.meaning.specs.Truth.{some, every}
use Rattle.meaning.specs.Chain.{iter}
use Rattle.formula.specs.Below.{recur}
use Rattle.meaning.specs.States.{Model, StateSet, leaf_set, two_set, step_set, start}
use Rattle.meaning.specs.Meaning.{put, meaning, owns, own}
use Rattle.bits.specs.Bits.{one}

-- a set of the states below n as a number
unfoldable pub word : ℕ → StateSet → ℕ
word zero A = 0
word (suc n) A = one (A 0) + 2 * word n (λ s. A (suc s))

-- the word of each entry by itself
unfoldable pub words : Model → Table → List ℕ
unfolding word values_from own owns meaning put recur iter start step_set two_set leaf_set some every shape
words M t = values_from (λ e. word M.size (own M t e)) 0 (length t)
