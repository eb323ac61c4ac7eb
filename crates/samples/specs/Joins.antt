-- joins, computed from the definitions (T-07): two halves of one leaf or two nodes, over twins
use Rattle.std.specs.Prelude.{◌≡◌, refl, List, [], ◌∷◌, ℕ}
use Rattle.std.proofs.Math.Decide.{ℕ_discrete}
use Rattle.encoding.specs.File.{Reading, refused, good}
use Rattle.encoding.specs.Opening.{opens}
use Rattle.formula.specs.Spelled.{table_by}
use Rattle.demands.specs.Join.{Whole, join_files_lem}
use Rattle.samples.specs.Parts.{truth, entryAB, claim_of, claim_of_goals, step, and, axiom2, proof_of}

-- 0 and 1 true, 2 the one and the other, 3 the first twice: 1 is a twin of 0, 3 of 2
abbrev twins : List (List ℕ)
twins = truth ∷ truth ∷ entryAB 5 0 1 ∷ entryAB 5 0 0 ∷ []

abbrev claim : List ℕ → List ℕ
claim members = claim_of twins members

-- by Ax2; and with 3 besides, dropped first
abbrev leaf : ℕ → List ℕ
leaf code = proof_of (axiom2 (code ∷ []) ∷ [])

abbrev beside : ℕ → List ℕ
beside code = proof_of (step 7 7 1 (code ∷ 7 ∷ []) ∷ axiom2 (code ∷ []) ∷ [])

-- the join of two claims of one member and their proofs at an entry, with so much room
abbrev at : ℕ → List ℕ → List ℕ → ℕ → ℕ → Reading Whole
at e claim₁ claim₂ a b = join_files_lem e claim₁ (leaf 1) claim₂ (leaf 3) a b

-- the rest is 0, whose formula both goals hold; the new root, and both leaves, renumbered
pub joined : at 2 (claim (0 ∷ [])) (claim (1 ∷ [])) 28 29
    ≡ good (record { claim = claim (0 ∷ 2 ∷ []); proof = proof_of (and 5 1 2 (1 ∷ 5 ∷ []) ∷ axiom2 (1 ∷ []) ∷ axiom2 (3 ∷ []) ∷ []) })
unfolding join_files_lem opens table_by ℕ_discrete
joined = refl

-- no room for either file: 70; no "A and B", and no entry at all: 73; a claim of another form, and a proof of another claim: their own refusals,
-- the first pair's before the second's
pub misses : at 2 (claim (0 ∷ [])) (claim (1 ∷ [])) 27 29 ∷ at 2 (claim (0 ∷ [])) (claim (1 ∷ [])) 28 28
    ∷ at 0 (claim (0 ∷ [])) (claim (1 ∷ [])) 28 29 ∷ at 65535 (claim (0 ∷ [])) (claim (1 ∷ [])) 28 29
    ∷ at 2 (claim (0 ∷ [])) (claim_of_goals twins ((1 ∷ []) ∷ [])) 28 29 ∷ at 2 (claim (2 ∷ [])) (claim (1 ∷ [])) 28 29
    ∷ at 2 (claim (2 ∷ [])) (claim_of_goals twins ((1 ∷ []) ∷ [])) 28 29 ∷ []
    ≡ refused 70 0 ∷ refused 70 0 ∷ refused 73 0 ∷ refused 73 65535 ∷ refused 10 0 ∷ refused 36 0 ∷ refused 36 0 ∷ []
unfolding join_files_lem opens table_by ℕ_discrete
misses = refl

-- a twin of the entry is a member of the rest: compared by number, it would be joined
pub twin : join_files_lem 2 (claim (0 ∷ 3 ∷ [])) (beside 1) (claim (1 ∷ 3 ∷ [])) (beside 3) 99 99 ≡ refused 73 2
unfolding join_files_lem opens table_by ℕ_discrete
twin = refl
