-- goals that are given by the counts of their members, and roots that are given beside them: whether they fit, and the goals that they cut
use Rattle.std.specs.Prelude.{◌≡◌, refl, List, [], ◌∷◌, ◌++◌, map, Bool, true, ◌&&◌, ℕ, suc, ◌+◌, ◌≤◌, eqb, length, take, drop}
use Rattle.std.proofs.Common.{ap, ◌∙◌, arith, eqb-true, length-append, length-take, length-drop, take-append-drop, length-take-le}
use Rattle.std.proofs.Math.Seq.{take-append_seam, drop-append_seam}
use Rattle.verdict.specs.Lists.{Each, none, more}
use Rattle.verdict.specs.Tells.{tells_self, and_tells, eqb_tells}
use Rattle.formula.specs.Claim.{Form, clm1, clm2}
use Rattle.writing.specs.RecordBytes.{split}

-- a sum of numbers, of any size: 32,768 + 32,768 is not 0
unfoldable pub total : List ℕ → ℕ
total [] = 0
total (k ∷ gs) = k + total gs

-- CLM1 has one goal; how many CLM2 may have is 72's to say
abbrev pub may_have : Form → ℕ → Bool
may_have clm1 k = eqb k 1
may_have clm2 k = true

-- the members are as many as the counts add up to
abbrev pub goals_fit : Form → List ℕ → List ℕ → Bool
goals_fit f gs ms = may_have f (length gs) && eqb (total gs) (length ms)

-- PRF1 has no roots, PRF2 as many as there are goals
abbrev pub root_count : Form → ℕ → ℕ
root_count clm1 k = 0
root_count clm2 k = k

abbrev pub roots_fit : Form → ℕ → List ℕ → Bool
roots_fit f k os = eqb (length os) (root_count f k)

-- the roots of the trees: in PRF1 node 0
abbrev pub roots_of : Form → List ℕ → List ℕ
roots_of clm1 os = 0 ∷ []
roots_of clm2 os = os

-- the roots that are given
abbrev pub given_roots : Form → List ℕ → List ℕ
given_roots clm1 os = []
given_roots clm2 os = os

-- where PRF1 has none, none are given
pub none_given : (os : List ℕ) → length os ≡ 0 → os ≡ []
none_given [] h = refl
none_given (x ∷ os) h = absurd (omega arith)

pub roots_given : (f : Form) (k : ℕ) (os : List ℕ) → roots_fit f k os ≡ true → os ≡ given_roots f (roots_of f os)
roots_given clm1 k os fit = none_given os (eqb-true (length os) 0 fit)
roots_given clm2 k os fit = refl

-- goals one after another
unfoldable pub joined : List (List ℕ) → List ℕ
joined [] = []
joined (g ∷ goals) = g ++ joined goals

abbrev pub lengths : List (List ℕ) → List ℕ
lengths goals = map length goals

pub split_count : (gs ms : List ℕ) → length (split gs ms) ≡ length gs
unfolding split
split_count [] ms = refl
split_count (k ∷ gs) ms = ap suc (split_count gs (drop k ms))

-- goals are cut by their lengths as they were
pub split_joined : (goals : List (List ℕ)) → split (lengths goals) (joined goals) ≡ goals
unfolding split joined
split_joined [] = refl
split_joined (g ∷ goals) = rw (take-append_seam g (joined goals), drop-append_seam g (joined goals), split_joined goals) refl

pub total_lengths : (goals : List (List ℕ)) → total (lengths goals) ≡ length (joined goals)
unfolding total joined
total_lengths [] = refl
total_lengths (g ∷ goals) = omega (arith, length-append g (joined goals), total_lengths goals)

pub goals_fit_lem : (f : Form) (gs ms : List ℕ) → goals_fit f gs ms ≡ true → (may_have f (length gs) ≡ true) × (total gs ≡ length ms)
goals_fit_lem f gs ms h = (and_tells (tells_self (may_have f (length gs))) (eqb_tells (total gs) (length ms))).says h

-- counts that add up to the members cut goals of these lengths, which together are the members
pub first_there : (k : ℕ) (gs ms : List ℕ) → total (k ∷ gs) ≤ length ms → length (take k ms) ≡ k
unfolding total
first_there k gs ms h = length-take-le k ms (omega arith)

pub joined_split : (gs ms : List ℕ) → total gs ≡ length ms → joined (split gs ms) ≡ ms
unfolding total split joined
joined_split [] [] h = refl
joined_split [] (m ∷ ms) h = absurd (omega arith)
joined_split (k ∷ gs) ms h = ap (λ (l : List ℕ). take k ms ++ l) (joined_split gs (drop k ms) (omega (arith, length-drop k ms))) ∙ take-append-drop k ms

-- a goal has no more members than its count says
pub split_few : {top : ℕ} {gs : List ℕ} → Each (λ (k : ℕ). k ≤ top) gs → (ms : List ℕ) → Each (λ (g : List ℕ). length g ≤ top) (split gs ms)
unfolding split
split_few none ms = none
split_few {top} (more {x = k} few fs) ms = let short : length (take k ms) ≤ top = omega (arith, length-take k ms) in more short (split_few fs (drop k ms))
