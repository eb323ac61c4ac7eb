-- the states from s on that pass the test
use Rattle.std.specs.Prelude.{◌≡◌, ℕ, Bool, ◌-◌, ◌^◌, ◌<◌}
use Rattle.states.specs.TopDown.{Upper}
use Rattle.letters.proofs.word_where.Given as goal

abbrev pub invariant-loop-s : goal.invariant-loop-s
invariant-loop-s g l = (l.r < 2 ^ (l.n - l.s)) × ((A : ℕ → Bool) → ((s : ℕ) (b : Bool) → s < l.n → g.F.Fn.post l.holds (s, tt) b → b ≡ A s) → Upper l.n A l.s l.r)
