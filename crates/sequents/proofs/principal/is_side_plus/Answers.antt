-- `is_side_plus` meets its contract: the child's words are those of the side with the code, and only there are they the same set.
use mathlib.Core.Path.{◌≡◌, refl}
use mathlib.Core.Logic.{◌≢◌}
use mathlib.Core.Bool.{Bool, true, false}
use mathlib.Core.List.{List}
use native.Mathlib.Omega.{arith}
use lib.ListN.{get_or}
use Prim.Native.Nat.{ℕ, ◌<◌}
use borrow.Author.Rules.{rules}
use borrow.Author.Tests.{tests}
use Rattle.std.proofs.Common.{zero-add}
use Rattle.std.specs.Bool.{MatchBool}
use Rattle.std.specs.List.{AllWithin, HoldsAt, range_with_len}
use Rattle.std.proofs.lemmas.Iterator.{cases_from_all, YieldsList-from_range}
use Rattle.std.proofs.lemmas.List.FromFn.{get_or-range_with_len}
use Rattle.verdict.specs.Tests.{same}
use Rattle.sequents.specs.CodeSet.{Holds, inserted, holds_with, same_words, other_words}
use Rattle.sequents.proofs.principal.is_side_plus.Goals as goal

-- word i of two sets is the same, or differs
abbrev Alike : List ℕ → List ℕ → ℕ → Type 0
Alike x y i = get_or x i 0 ≡ get_or y i 0

abbrev Unlike : List ℕ → List ℕ → ℕ → Type 0
Unlike x y i = get_or x i 0 ≢ get_or y i 0

decided : (x y l m : List ℕ) → Holds x l → Holds y m → (r : Bool)
    → MatchBool r (AllWithin (Alike x y) (range_with_len 0 8) 0 8) ((k : ℕ) × (k < 8) × HoldsAt (Unlike x y) (range_with_len 0 8) k) → r ≡ same l m
decided x y l m X Y true h = same_words x y l m X Y (λ i b. (rw (get_or-range_with_len 0 8 i 0 b, zero-add) at (h i 0 (omega arith) b)))
decided x y l m X Y false (k, b, h) = other_words x y l m X Y k (rw (get_or-range_with_len 0 8 k 0 b, zero-add) at (h 0))

pub returns : goal.returns
returns c s m S M =
    let a = c.args in
    let with_code = inserted a.side.now a.code in
    decided a.child.now with_code m _ M (holds_with a.side.now s a.code c.requires S) c.all.result
    (cases_from_all _ _ _ (Alike a.child.now with_code) (Unlike a.child.now with_code) c.all.ensures.ran (YieldsList-from_range 0 8 8 refl refl)
    (λ x q k. search (rules, tests)) (λ x q k. search (rules, tests)))
