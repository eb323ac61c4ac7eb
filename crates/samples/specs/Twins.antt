-- files with formulas under more than one entry number, for T-03: members are compared by formula
use Rattle.std.specs.Prelude.{List, [], ◌∷◌, ℕ}
use Rattle.samples.specs.Parts.{truth, entry_a, entryAB, claim_of, step, discharge, back, axiom1, axiom2, proof_of}

-- true under two numbers; Ax2 with both
abbrev pub two_true : List ℕ → List ℕ
two_true members = claim_of (truth ∷ truth ∷ []) members

abbrev pub both_by_ax2 : List ℕ
both_by_ax2 = proof_of (axiom2 (1 ∷ 3 ∷ []) ∷ [])

-- letter 0 under two numbers, and its negation; Ax1 with all three
abbrev pub letter_twice : List ℕ
letter_twice = claim_of (entry_a 2 0 ∷ entry_a 2 0 ∷ entry_a 3 0 ∷ []) (0 ∷ 1 ∷ 2 ∷ [])

abbrev pub all_by_ax1 : List ℕ
all_by_ax1 = proof_of (axiom1 (1 ∷ 3 ∷ 5 ∷ []) ∷ [])

-- letter 0, its negation, and their or under two numbers; rule 2 for one of these, then Ax1
abbrev pub two_ors : List ℕ
two_ors = claim_of (entry_a 2 0 ∷ entry_a 3 0 ∷ entryAB 4 0 1 ∷ entryAB 4 0 1 ∷ []) (2 ∷ 3 ∷ [])

abbrev pub or_of_two : List ℕ
or_of_two = proof_of (step 2 5 1 (5 ∷ 7 ∷ []) ∷ axiom1 (1 ∷ 3 ∷ []) ∷ [])

-- true, and its box under two numbers; rule 4 for one of these, then Ax2
abbrev pub two_boxes : List ℕ
two_boxes = claim_of (truth ∷ entry_a 7 0 ∷ entry_a 7 0 ∷ []) (1 ∷ 2 ∷ [])

abbrev pub box_of_two : List ℕ
box_of_two = proof_of (step 4 3 1 (3 ∷ 5 ∷ []) ∷ axiom2 (1 ∷ []) ∷ [])

-- true under two numbers, and a mu over the second; rule 5 leaves it out of focus beside the first, then Ax2
abbrev pub true_and_mu_of_true : List ℕ
true_and_mu_of_true = claim_of (truth ∷ truth ∷ entry_a 8 1 ∷ []) (0 ∷ 2 ∷ [])

abbrev pub true_in_either_focus : List ℕ
true_in_either_focus = proof_of (step 5 5 1 (1 ∷ 5 ∷ []) ∷ axiom2 (1 ∷ 2 ∷ []) ∷ [])

-- the same with boxes of true in its place: rule 4 after rule 5, W of true out of focus, then Ax2
abbrev pub box_and_mu_of_box : List ℕ
box_and_mu_of_box = claim_of (truth ∷ entry_a 7 0 ∷ entry_a 7 0 ∷ entry_a 8 2 ∷ []) (1 ∷ 3 ∷ [])

abbrev pub box_in_either_focus : List ℕ
box_in_either_focus = proof_of (step 5 7 1 (3 ∷ 7 ∷ []) ∷ step 4 3 2 (3 ∷ 4 ∷ []) ∷ step 7 0 3 (0 ∷ 1 ∷ []) ∷ axiom2 (1 ∷ []) ∷ [])

-- 0 is true; 3 is nu x box x, and 2 the box of its name; 6 is nu y box y; 7 is the box of 3, and 8 a nu over it
abbrev pub nus : List ℕ → List ℕ
nus members =
    claim_of
    (truth ∷ entry_a 10 3 ∷ entry_a 7 1 ∷ entry_a 9 2 ∷ entry_a 10 6 ∷ entry_a 7 4 ∷ entry_a 9 5 ∷ entry_a 7 3 ∷ entry_a 9 7 ∷ [])
    members

-- 0 is true; 7 is nu x nu y (box x or box y), and 14 is nu x nu y (box y or box x)
abbrev pub nested_nus : List ℕ → List ℕ
nested_nus members =
    claim_of
    (truth
    ∷ entry_a 10 7 ∷ entry_a 10 6 ∷ entry_a 7 1 ∷ entry_a 7 2 ∷ entryAB 4 3 4 ∷ entry_a 9 5 ∷ entry_a 9 6
    ∷ entry_a 10 14 ∷ entry_a 10 13 ∷ entry_a 7 8 ∷ entry_a 7 9 ∷ entryAB 4 11 10 ∷ entry_a 9 12 ∷ entry_a 9 13 ∷ [])
    members

-- the loop of nu over nus: with the numbers of 6 throughout; with 6 in the leaf alone; by turns, where no number is its parent's target
abbrev pub loop_of_other : List ℕ
loop_of_other = proof_of (discharge 1 (13 ∷ []) ∷ step 6 13 2 (13 ∷ []) ∷ step 4 11 3 (11 ∷ []) ∷ back 0 (13 ∷ []) ∷ [])

abbrev pub leaf_of_other : List ℕ
leaf_of_other = proof_of (discharge 1 (7 ∷ []) ∷ step 6 7 2 (7 ∷ []) ∷ step 4 5 3 (5 ∷ []) ∷ back 0 (13 ∷ []) ∷ [])

abbrev pub loop_by_turns : List ℕ
loop_by_turns = proof_of (discharge 1 (7 ∷ []) ∷ step 6 7 2 (13 ∷ []) ∷ step 4 15 3 (5 ∷ []) ∷ back 0 (7 ∷ []) ∷ [])
