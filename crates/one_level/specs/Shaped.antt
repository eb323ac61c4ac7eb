-- what the one-level test compares, as the program has the columns
use Rattle.std.specs.Prelude.{ℕ}
use Rattle.one_level.specs.declared.Sought.{Sought}
use Rattle.one_level.specs.Fit.{Fit, FitTwo, FitFix}

abbrev pub FitTwoHere : Sought → ℕ → Type 0
FitTwoHere x = let s = x.shapes.now in FitTwo s.table.b.now x.numbers.now s.firsts.now s.seconds.now x.k x.j x.e

abbrev pub FitFixHere : Sought → ℕ → Type 0
FitFixHere x = let s = x.shapes.now in FitFix s.table.a.now s.totals.now x.e

abbrev pub FitHere : Sought → ℕ → Type 0
FitHere x =
    let s = x.shapes.now in
    let t = s.table in
    Fit t.kinds.now t.a.now t.b.now s.totals.now x.numbers.now s.firsts.now s.seconds.now x.k x.i x.j x.e
