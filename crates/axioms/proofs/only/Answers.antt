-- `only` meets its contract: the test is made of each code of the part.
use mathlib.Core.Path.{◌≡◌, refl, ap, ◌∙◌}
use mathlib.Core.Bool.{Bool, ◌&&◌}
use mathlib.Core.List.{List, [], ◌∷◌}
use Prim.Native.Nat.{ℕ}
use borrow.Author.Rules.{rules}
use borrow.Author.Tests.{tests}
use Rattle.std.specs.List.{list_all}
use Rattle.std.proofs.lemmas.Iterator.{YieldsList-from_slice}
use Rattle.std.proofs.lemmas.Iterator.Adapters.{serves_from_places}
use Rattle.std.proofs.lemmas.Iterator.Search.{all_from_yields_List}
use Rattle.verdict.specs.Tests.{all, each}
use Rattle.sequents.specs.Keys.{key_of_lem}
use Rattle.sequents.specs.Part.{fit_item}
use Rattle.axioms.specs.AxiomParts.{one_of}
use Rattle.axioms.proofs.only.Goals as goal

all_keys : (f : ℕ → Bool) (g : ℕ → ℕ) (l : List ℕ) → list_all (λ (x : ℕ). f (g x)) l ≡ all f (each g l)
unfolding all each
all_keys f g [] = refl
all_keys f g (x ∷ l) = ap (λ (b : Bool). f (g x) && b) (all_keys f g l)

pub all-requires-clause-callable : goal.all-requires-clause-callable
all-requires-clause-callable c =
    serves_from_places (YieldsList-from_slice _ c.iter.ensures.rest) (λ x q k. search (rules, tests)) (λ x k h e. let small = fit_item c.requires x.now k h e in search (rules, small))

pub returns : goal.returns
returns c =
    let a = c.args in
    all_from_yields_List (λ (x : ℕ). one_of a.x a.y (key_of_lem a.table.now.canon.now x)) _ _ _ c.all.ensures.ran (YieldsList-from_slice _ c.iter.ensures.rest) (λ x b q k. search (rules, tests))
    ∙ all_keys (one_of a.x a.y) (key_of_lem a.table.now.canon.now) a.codes.now
