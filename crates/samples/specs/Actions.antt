-- files with actions, for T-04
use Rattle.std.specs.Prelude.{List, [], ◌∷◌, ◌++◌, ℕ}
use Rattle.samples.specs.Parts.{model_opening, truth, entry_a, entryAB, claim_of, step, axiom1, proof_of}

-- letter 0 and its negation; a box of the one by action n, a diamond of the other by action m
abbrev pub box_and_diamond : ℕ → ℕ → List ℕ
box_and_diamond n m = claim_of (entry_a 2 0 ∷ entry_a 3 0 ∷ entryAB 7 0 n ∷ entryAB 6 1 m ∷ []) (2 ∷ 3 ∷ [])

-- rule 4 for the box, then Ax1
abbrev pub box_then_ax1 : List ℕ
box_then_ax1 = proof_of (step 4 5 1 (5 ∷ 7 ∷ []) ∷ axiom1 (1 ∷ 3 ∷ []) ∷ [])

-- true, a box by action 16, and a box whose operand does not lie below it
abbrev pub action_then_bounds : List ℕ
action_then_bounds = claim_of (truth ∷ entryAB 7 0 16 ∷ entry_a 7 2 ∷ []) (0 ∷ [])

-- true, and a box that has both faults
abbrev pub action_and_bounds : List ℕ
action_and_bounds = claim_of (truth ∷ entryAB 7 1 16 ∷ []) (0 ∷ [])

-- a mu of its own name, which is unguarded, and above it a box by action 16
abbrev pub unguarded_then_action : List ℕ
unguarded_then_action = claim_of (entry_a 10 1 ∷ entry_a 8 0 ∷ entryAB 7 1 16 ∷ []) (1 ∷ [])

-- a letter with a field B
abbrev pub letter_with_b : List ℕ
letter_with_b = claim_of (entryAB 2 0 1 ∷ []) (0 ∷ [])

-- letter 0, and its boxes by actions 1 and 2
abbrev pub boxes_of_letter : List ℕ
boxes_of_letter = claim_of (entry_a 2 0 ∷ entryAB 7 0 1 ∷ entryAB 7 0 2 ∷ []) (0 ∷ [])

-- two states: from the first, action 1 leads to the second, which has letter 0, and action 2 back to the first
abbrev pub two_ways : List ℕ
two_ways = 0x4D ∷ 0x44 ∷ 0x4C ∷ 0x32 ∷ 2 ∷ 2 ∷ 6 ∷ 0 ∷ 1 ∷ 1 ∷ 1 ∷ 0 ∷ 1 ∷ 1 ∷ 0 ∷ 0 ∷ 0 ∷ []

-- the same states in the old form: action 0 leads from the first back to it
abbrev pub one_way : List ℕ
one_way = model_opening ++ (2 ∷ 2 ∷ 1 ∷ 0 ∷ 1 ∷ 1 ∷ 0 ∷ 0 ∷ 0 ∷ [])
