-- what stands before a round, within it and after it, as the program has the columns
use Rattle.std.specs.Prelude.{List, ℕ}
use Rattle.one_level.specs.declared.Shapes.{Shapes}
use Rattle.rounds.specs.Rounds.{Placed, Between, Round}

abbrev pub PlacedIn : Shapes → List ℕ → List ℕ → List ℕ → List ℕ → List ℕ → List ℕ → ℕ → Type 0
PlacedIn s = let t = s.table in Placed t.kinds.now t.a.now t.b.now t.count s.totals.now s.firsts.now s.seconds.now

abbrev pub BetweenIn : Shapes → List ℕ → List ℕ → List ℕ → ℕ → Type 0
BetweenIn s = let t = s.table in Between t.kinds.now t.a.now t.b.now t.count s.free.now s.totals.now s.firsts.now s.seconds.now

abbrev pub RoundIn : Shapes → List ℕ → List ℕ → List ℕ → ℕ → ℕ → Type 0
RoundIn s = let t = s.table in Round t.kinds.now t.a.now t.b.now t.count s.free.now s.totals.now s.firsts.now s.seconds.now
