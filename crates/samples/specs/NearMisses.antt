-- files that fail one condition of documents 01 and 02 and keep all others, laid down from their parts
use Rattle.std.specs.Prelude.{List, [], ◌∷◌, ◌++◌, ℕ}
use Rattle.samples.specs.Parts.{claim_opening, proof_opening, model_opening, falsity, truth, entry_a, entryAB, claim_of, sequent, step, and, discharge, back, axiom2, proof_of}

-- true alone, and Ax2 for a code: whatever its other entries are, a claim on true alone is accepted with it unless it is ill formed
abbrev pub only_true : List ℕ
only_true = claim_of (truth ∷ []) (0 ∷ [])

abbrev pub by_ax2 : ℕ → List ℕ
by_ax2 code = proof_of (axiom2 (code ∷ []) ∷ [])

-- entry 4 is the nu of 'box of its name, or letter 0'
abbrev pub nu_of_box_or_letter : List ℕ
nu_of_box_or_letter = claim_of (entry_a 10 4 ∷ entry_a 7 0 ∷ entry_a 2 0 ∷ entryAB 4 1 2 ∷ entry_a 9 3 ∷ []) (4 ∷ [])

-- D, nu, or, W of the letter, box, back leaf
abbrev pub letter_dropped : List ℕ
letter_dropped =
    proof_of
    (discharge 1 (9 ∷ []) ∷ step 6 9 2 (9 ∷ []) ∷ step 2 7 3 (7 ∷ []) ∷ step 7 5 4 (3 ∷ 5 ∷ []) ∷ step 4 3 5 (3 ∷ []) ∷ back 0 (9 ∷ []) ∷ [])

-- the same, and U takes the letter out of focus before W drops it; the box stays in focus
abbrev pub letter_unfocused : List ℕ
letter_unfocused =
    proof_of
    (discharge 1 (9 ∷ []) ∷ step 6 9 2 (9 ∷ []) ∷ step 2 7 3 (7 ∷ []) ∷ step 9 5 4 (3 ∷ 5 ∷ []) ∷ step 7 4 5 (3 ∷ 4 ∷ []) ∷ step 4 3 6 (3 ∷ [])
    ∷ back 0 (9 ∷ []) ∷ [])

-- entry 7 is the nu of 'box of its name and true, or a mu over letter 0'
abbrev pub nu_of_and_or_mu : List ℕ
nu_of_and_or_mu =
    claim_of
    (entry_a 10 7 ∷ entry_a 7 0 ∷ truth ∷ entryAB 5 1 2 ∷ entry_a 2 0 ∷ entry_a 8 4 ∷ entryAB 4 3 5 ∷ entry_a 9 6 ∷ [])
    (7 ∷ [])

-- D, nu, or, U and mu of the mu, W of its letter, D again, and, box, back leaf; Ax2 for the other child of the and
abbrev pub every_rule_but_f : List ℕ
every_rule_but_f =
    proof_of
    (discharge 1 (15 ∷ []) ∷ step 6 15 2 (15 ∷ []) ∷ step 2 13 3 (13 ∷ []) ∷ step 9 11 4 (7 ∷ 11 ∷ []) ∷ step 5 10 5 (7 ∷ 10 ∷ [])
    ∷ step 7 8 6 (7 ∷ 8 ∷ []) ∷ discharge 7 (7 ∷ []) ∷ and 7 8 10 (7 ∷ []) ∷ step 4 3 9 (3 ∷ []) ∷ back 0 (15 ∷ []) ∷ axiom2 (5 ∷ []) ∷ [])

-- U and F, then the loop of nu below them
abbrev pub focus_lost_above : List ℕ
focus_lost_above =
    proof_of
    (step 9 5 1 (5 ∷ []) ∷ step 8 4 2 (4 ∷ []) ∷ discharge 3 (5 ∷ []) ∷ step 6 5 4 (5 ∷ []) ∷ step 4 3 5 (3 ∷ []) ∷ back 2 (5 ∷ []) ∷ [])

-- the loop of nu, where U takes the box out of focus; the same with F before the leaf
abbrev pub last_focus_left : List ℕ
last_focus_left =
    proof_of (discharge 1 (5 ∷ []) ∷ step 6 5 2 (5 ∷ []) ∷ step 9 3 3 (3 ∷ []) ∷ step 4 2 4 (2 ∷ []) ∷ back 0 (4 ∷ []) ∷ [])

abbrev pub last_focus_brought_back : List ℕ
last_focus_brought_back =
    proof_of
    (discharge 1 (5 ∷ []) ∷ step 6 5 2 (5 ∷ []) ∷ step 9 3 3 (3 ∷ []) ∷ step 4 2 4 (2 ∷ []) ∷ step 8 4 5 (4 ∷ []) ∷ back 0 (5 ∷ []) ∷ [])

-- entry 5 is the nu of 'box of its name, or a mu over letter 0'
abbrev pub nu_of_box_or_mu : List ℕ
nu_of_box_or_mu = claim_of (entry_a 10 5 ∷ entry_a 7 0 ∷ entry_a 2 0 ∷ entry_a 8 2 ∷ entryAB 4 1 3 ∷ entry_a 9 4 ∷ []) (5 ∷ [])

-- the same loop, where mu leaves the letter out of focus and F puts it there before W drops it
abbrev pub letter_focused : List ℕ
letter_focused =
    proof_of
    (discharge 1 (11 ∷ []) ∷ step 6 11 2 (11 ∷ []) ∷ step 2 9 3 (9 ∷ []) ∷ step 5 7 4 (3 ∷ 7 ∷ []) ∷ step 8 4 5 (3 ∷ 4 ∷ [])
    ∷ step 7 5 6 (3 ∷ 5 ∷ []) ∷ step 4 3 7 (3 ∷ []) ∷ back 0 (11 ∷ []) ∷ [])

-- entry 3 is nu of box and itself
abbrev pub nu_of_box_twice : List ℕ
nu_of_box_twice = claim_of (entry_a 10 2 ∷ entry_a 7 0 ∷ entry_a 9 1 ∷ entryAB 5 2 2 ∷ []) (3 ∷ [])

-- the loop of nu for the first child of the and, D then a back leaf for the second
abbrev pub good_loop_then_bad : List ℕ
good_loop_then_bad =
    proof_of
    (and 7 1 5 (7 ∷ []) ∷ discharge 2 (5 ∷ []) ∷ step 6 5 3 (5 ∷ []) ∷ step 4 3 4 (3 ∷ []) ∷ back 1 (5 ∷ [])
    ∷ discharge 6 (5 ∷ []) ∷ back 5 (5 ∷ []) ∷ [])

-- mu of box, taken out of focus before the loop
abbrev pub loop_out_of_focus : List ℕ
loop_out_of_focus = proof_of (step 9 5 1 (5 ∷ []) ∷ discharge 2 (4 ∷ []) ∷ step 5 4 3 (4 ∷ []) ∷ step 4 2 4 (2 ∷ []) ∷ back 1 (4 ∷ []) ∷ [])

-- the same with F on the loop: the mu that is unfolded is in focus, and no other sequent has one
abbrev pub loop_focused_once : List ℕ
loop_focused_once =
    proof_of
    (step 9 5 1 (5 ∷ []) ∷ discharge 2 (4 ∷ []) ∷ step 8 4 3 (4 ∷ []) ∷ step 5 5 4 (5 ∷ []) ∷ step 4 2 5 (2 ∷ []) ∷ back 1 (4 ∷ []) ∷ [])

-- the loop of nu without its D
abbrev pub loop_without_d : List ℕ
loop_without_d = proof_of (step 6 5 1 (5 ∷ []) ∷ step 4 3 2 (3 ∷ []) ∷ back 0 (5 ∷ []) ∷ [])

-- the loop of nu with the name in its leaf, where the box step leads to the nu
abbrev pub leaf_with_name : List ℕ
leaf_with_name = proof_of (discharge 1 (5 ∷ []) ∷ step 6 5 2 (5 ∷ []) ∷ step 4 3 3 (3 ∷ []) ∷ back 0 (1 ∷ []) ∷ [])

-- entry 5, the outer fixpoint, over entry 4, the inner: the inner's body is the outer's name or a box of its own; 6 is true
abbrev pub name_through_fixpoint : List ℕ
name_through_fixpoint =
    claim_of (entry_a 10 5 ∷ entry_a 10 4 ∷ entry_a 7 1 ∷ entryAB 4 0 2 ∷ entry_a 8 3 ∷ entry_a 8 4 ∷ truth ∷ []) (6 ∷ [])

-- entry 3, the outer fixpoint, a box, and the inner fixpoint over the outer's name; 4 is true
abbrev pub fixpoint_under_box : ℕ → ℕ → List ℕ
fixpoint_under_box outer inner = claim_of (entry_a 10 3 ∷ entry_a inner 0 ∷ entry_a 7 1 ∷ entry_a outer 2 ∷ truth ∷ []) (4 ∷ [])

-- true, and an entry of kind 2 or 3 for a letter
abbrev pub true_beside_letter : ℕ → ℕ → List ℕ
true_beside_letter kind letter = claim_of (truth ∷ entry_a kind letter ∷ []) (0 ∷ [])

-- true, and false beside it
abbrev pub true_beside_false : List ℕ → List ℕ
true_beside_false members = claim_of (truth ∷ falsity ∷ []) members

-- W of a principal, then Ax2
abbrev pub dropped : ℕ → List ℕ → List ℕ
dropped principal codes = proof_of (step 7 principal 1 codes ∷ axiom2 (1 ∷ []) ∷ [])

-- F of a code that is in focus; U, then U of the code that is out of focus
abbrev pub focused_twice : List ℕ
focused_twice = proof_of (step 8 1 1 (1 ∷ []) ∷ axiom2 (1 ∷ []) ∷ [])

abbrev pub unfocused_twice : List ℕ
unfocused_twice = proof_of (step 9 1 1 (1 ∷ []) ∷ step 9 0 2 (0 ∷ []) ∷ axiom2 (0 ∷ []) ∷ [])

-- two roots
abbrev pub orphan : List ℕ
orphan = proof_of (axiom2 (1 ∷ []) ∷ axiom2 (1 ∷ []) ∷ [])

-- true and true, with one node for both children
abbrev pub true_and_true : List ℕ
true_and_true = claim_of (truth ∷ entryAB 5 0 0 ∷ []) (1 ∷ [])

abbrev pub one_child_twice : List ℕ
one_child_twice = proof_of (and 3 1 1 (3 ∷ []) ∷ axiom2 (1 ∷ []) ∷ [])

-- D, whose sequent has one code twice, then Ax2
abbrev pub code_twice : List ℕ
code_twice = proof_of (discharge 1 (1 ∷ 1 ∷ []) ∷ axiom2 (1 ∷ []) ∷ [])

-- true, and entry 3, a nu of box whose name is entry 1; members 0 and 1
abbrev pub name_as_member : List ℕ
name_as_member = claim_of (truth ∷ entry_a 10 3 ∷ entry_a 7 1 ∷ entry_a 9 2 ∷ []) (0 ∷ 1 ∷ [])

-- one Ax2 node, one entry true, with a map of its own
abbrev pub map_of_ax2 : ℕ → List ℕ
map_of_ax2 map = proof_of ((map ∷ 1 ∷ sequent (1 ∷ [])) ∷ [])

abbrev pub map_of_true : ℕ → List ℕ
map_of_true map = claim_of ((map ∷ 1 ∷ []) ∷ []) (0 ∷ [])

-- files that end after a count, of two bytes or of one: a count in range is read past, and the file then ends early
abbrev pub ends_at_entry_count : ℕ → ℕ → List ℕ
ends_at_entry_count low high = claim_opening ++ (low ∷ high ∷ [])

abbrev pub ends_at_member_count : ℕ → List ℕ
ends_at_member_count n = claim_opening ++ (1 ∷ 0 ∷ truth) ++ (n ∷ 0 ∷ [])

abbrev pub ends_at_node_count : ℕ → ℕ → List ℕ
ends_at_node_count low high = proof_opening ++ (low ∷ high ∷ [])

abbrev pub ends_at_code_count : ℕ → List ℕ
ends_at_code_count n = proof_opening ++ (1 ∷ 0 ∷ 0x10 ∷ 1 ∷ n ∷ [])

abbrev pub ends_at_state_count : ℕ → List ℕ
ends_at_state_count n = model_opening ++ (n ∷ [])
