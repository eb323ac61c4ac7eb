-- which entries are the same form as the one sought, its mark and the number chosen for it, as the program has the columns
use Rattle.std.specs.Prelude.{List, ℕ}
use Rattle.one_level.specs.declared.Shapes.{Shapes}
use Rattle.one_level.specs.declared.Sought.{Sought}
use Rattle.searching.specs.Search.{Candidate, mark_of, Chosen}

abbrev pub Like : Sought → List ℕ → ℕ → Type 0
Like x bs =
    let s = x.shapes.now in
    let t = s.table in
    Candidate t.kinds.now t.a.now t.b.now s.totals.now s.firsts.now s.seconds.now bs x.numbers.now x.k x.i x.j x.e

abbrev pub mark_here : Sought → ℕ
mark_here x = let t = x.shapes.now.table in mark_of t.kinds.now t.a.now t.b.now x.numbers.now x.i x.j x.e

abbrev pub ChosenIn : Shapes → List ℕ → List ℕ → List ℕ → List ℕ → ℕ → ℕ → ℕ → Type 0
ChosenIn s = let t = s.table in Chosen t.kinds.now t.a.now t.b.now t.count s.totals.now s.firsts.now s.seconds.now
