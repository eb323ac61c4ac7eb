-- `all_boxed` meets its contract: the test is made of each code of the part.
use mathlib.Core.Path.{◌≡◌, refl, ap, ◌∙◌}
use mathlib.Core.Bool.{Bool, ◌&&◌}
use mathlib.Core.List.{List, [], ◌∷◌}
use Prim.Native.Nat.{ℕ}
use borrow.Author.Rules.{rules}
use borrow.Author.Tests.{tests}
use Rattle.std.specs.List.{list_all}
use Rattle.std.proofs.lemmas.Iterator.{YieldsList-from_slice}
use Rattle.std.proofs.lemmas.Iterator.Adapters.{serves_from_places}
use Rattle.std.proofs.lemmas.Iterator.Search.{all_from_yields_List}
use Rattle.verdict.specs.Tests.{all}
use Rattle.sequents.specs.Part.{fit_item}
use Rattle.modal.specs.BoxLaws.{boxed as Boxed}
use Rattle.modal.proofs.all_boxed.Goals as goal

all_codes : (f : ℕ → Bool) (l : List ℕ) → list_all f l ≡ all f l
unfolding all
all_codes f [] = refl
all_codes f (x ∷ l) = ap (λ (b : Bool). f x && b) (all_codes f l)

pub all-requires-clause-callable : goal.all-requires-clause-callable
all-requires-clause-callable c =
    serves_from_places (YieldsList-from_slice _ c.iter.ensures.rest) (λ x q k. search (rules, tests))
    (λ x k h e. let small = fit_item c.requires x.now k h e in search (rules, small))

pub returns : goal.returns
returns c =
    let a = c.args in
    let test = Boxed a.table.now.columns.kinds.now a.table.now.columns.b.now a.table.now.canon.now a.principal a.action in
    all_from_yields_List test _ _ _ c.all.ensures.ran (YieldsList-from_slice _ c.iter.ensures.rest) (λ x b q k. search (rules, tests))
    ∙ all_codes test a.codes.now
