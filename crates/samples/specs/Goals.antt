-- files with several goals, for T-05, and with none, for T-06
use Rattle.std.specs.Prelude.{List, [], ◌∷◌, ℕ, replicate}
use Rattle.samples.specs.Parts.{truth, entry_a, claim_of_goals, step, discharge, back, axiom2, proof_of, proof_of_trees}

-- nu x box x as entry 2, its box as entry 1; these goals
abbrev pub nu_goals : List (List ℕ) → List ℕ
nu_goals goals = claim_of_goals (entry_a 10 2 ∷ entry_a 7 0 ∷ entry_a 9 1 ∷ []) goals

abbrev pub twice : List ℕ
twice = nu_goals ((2 ∷ []) ∷ (2 ∷ []) ∷ [])

-- two loops of nu, one after the other, the leaf of the second with this link
abbrev loops : ℕ → List (List ℕ)
loops link =
    discharge 1 (5 ∷ []) ∷ step 6 5 2 (5 ∷ []) ∷ step 4 3 3 (3 ∷ []) ∷ back 0 (5 ∷ [])
    ∷ discharge 5 (5 ∷ []) ∷ step 6 5 6 (5 ∷ []) ∷ step 4 3 7 (3 ∷ []) ∷ back link (5 ∷ []) ∷ []

abbrev pub two_loops : List ℕ → ℕ → List ℕ
two_loops roots link = proof_of_trees roots (loops link)

-- the same in the form for one goal
abbrev pub one_form : List ℕ
one_form = proof_of (loops 4)

-- the same two, their nodes by turns
abbrev pub by_turns : List ℕ
by_turns = proof_of_trees (0 ∷ 1 ∷ [])
    (discharge 2 (5 ∷ []) ∷ discharge 3 (5 ∷ []) ∷ step 6 5 4 (5 ∷ []) ∷ step 6 5 5 (5 ∷ [])
    ∷ step 4 3 6 (3 ∷ []) ∷ step 4 3 7 (3 ∷ []) ∷ back 0 (5 ∷ []) ∷ back 1 (5 ∷ []) ∷ [])

-- true, so many times a goal, and Ax2 as often, each a tree
abbrev pub true_goals : ℕ → List ℕ
true_goals n = claim_of_goals (truth ∷ []) (replicate n (0 ∷ []))

abbrev pub leaves : List ℕ → ℕ → List ℕ
leaves roots n = proof_of_trees roots (replicate n (axiom2 (1 ∷ [])))

abbrev pub first_sixteen : List ℕ
first_sixteen = 0 ∷ 1 ∷ 2 ∷ 3 ∷ 4 ∷ 5 ∷ 6 ∷ 7 ∷ 8 ∷ 9 ∷ 10 ∷ 11 ∷ 12 ∷ 13 ∷ 14 ∷ 15 ∷ []

-- true, and these goals
abbrev pub goals_of_true : List (List ℕ) → List ℕ
goals_of_true goals = claim_of_goals (truth ∷ []) goals

-- these entries and no goal; a proof of nothing, in either form; one node without codes
abbrev pub no_goals : List (List ℕ) → List ℕ
no_goals entries = claim_of_goals entries []

abbrev pub nothing : List ℕ
nothing = proof_of_trees [] []

abbrev pub nothing_in_one_form : List ℕ
nothing_in_one_form = proof_of []

abbrev pub one_node : List ℕ
one_node = proof_of_trees [] ((0 ∷ 0 ∷ []) ∷ [])

-- true, and a node that is its own child
abbrev pub own_child : List ℕ
own_child = proof_of_trees [] (axiom2 (1 ∷ []) ∷ discharge 1 (1 ∷ []) ∷ [])

-- no entries, and these goals
abbrev pub goals_of_nothing : List (List ℕ) → List ℕ
goals_of_nothing goals = claim_of_goals [] goals
