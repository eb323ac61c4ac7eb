-- the test that two lists hold the same set is exact
use Rattle.std.specs.Prelude.{ℕ}
use mathlib.Core.List.{List}
use Rattle.verdict.specs.Sets.{Set, Same, elements}
use Rattle.verdict.specs.Tests.{same}
use Rattle.verdict.specs.Tells.{Tells, tells_as, and_tells}
use Rattle.verdict.specs.SetTells.{Lists, all_tells, member_tells, same_sym, same_trans}

pub same_tells : (l : List ℕ) {r : List ℕ} {R : Set ℕ} → Lists r R → Tells (same l r) (Same (elements l) R)
unfolding same
same_tells l {r} s = tells_as
    (λ (f, g). same_trans (record { into = f; from = g }) s)
    (λ q. let z = same_trans q (same_sym s) in (z.into, z.from))
    (and_tells (all_tells (member_tells r) l) (all_tells (member_tells l) r))
