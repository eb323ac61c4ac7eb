-- document 01's proved samples, then near misses, as one table computed from the definitions: files, models and the gate; formulas alike (T-03), actions (T-04), several goals (T-05) and none (T-06) among them
use Rattle.std.specs.Prelude.{◌≡◌, refl, ℕ, take, replicate}
use mathlib.Core.List.{List, [], ◌∷◌, ◌++◌}
use Rattle.std.proofs.Math.Decide.{ℕ_discrete}
use Rattle.verdict.specs.Verdict.{Verdict, accepted, refused}
use Rattle.encoding.specs.Opening.{opens}
use Rattle.formula.specs.Table.{blank}
use Rattle.formula.specs.Spelled.{table_by}
use Rattle.model_files.specs.ReadModel.{state}
use Rattle.permit.specs.GateState.{Gate, start, opening, Permit, granted, denied, taking}
use Rattle.demands.specs.Slices.{Lent, LentWords}
use Rattle.demands.specs.Check.{verdict}
use Rattle.demands.specs.Present.{presenting}
use Rattle.demands.specs.Evaluate.{evaluating}
use Rattle.samples.specs.Files.{nu_box, mu_box, loop_of_nu, loop_of_mu, loop_of_mu_with_f, loop_of_focused_mu, box_beside_box, box_of_box, empty_loop, or_of_letters, or_then_ax1, mu_of_own_name, diamond_above, no_successor, own_successor}
use Rattle.samples.specs.NearMisses.{nu_of_box_or_letter, letter_dropped, letter_unfocused, last_focus_left, last_focus_brought_back, nu_of_box_or_mu, letter_focused, nu_of_box_twice}
use Rattle.samples.specs.NearMisses.{nu_of_and_or_mu, every_rule_but_f, focus_lost_above, good_loop_then_bad, loop_out_of_focus, loop_focused_once, loop_without_d}
use Rattle.samples.specs.NearMisses.{only_true, by_ax2, true_beside_false, dropped, focused_twice, unfocused_twice, orphan, true_and_true, one_child_twice}
use Rattle.samples.specs.NearMisses.{name_through_fixpoint, fixpoint_under_box, true_beside_letter, code_twice, name_as_member, leaf_with_name, map_of_ax2, map_of_true}
use Rattle.samples.specs.Twins.{two_true, both_by_ax2, letter_twice, all_by_ax1, two_ors, or_of_two, two_boxes, box_of_two}
use Rattle.samples.specs.Twins.{true_and_mu_of_true, true_in_either_focus, box_and_mu_of_box, box_in_either_focus, nus, nested_nus, loop_of_other, leaf_of_other, loop_by_turns}
use Rattle.samples.specs.Actions.{box_and_diamond, box_then_ax1, action_then_bounds, action_and_bounds, unguarded_then_action, letter_with_b, boxes_of_letter, two_ways, one_way}
use Rattle.samples.specs.Goals.{nu_goals, twice, two_loops, one_form, by_turns, true_goals, leaves, first_sixteen, goals_of_true}
use Rattle.samples.specs.Goals.{no_goals, nothing, nothing_in_one_form, one_node, own_child, goals_of_nothing}
use Rattle.samples.specs.Parts.{truth}
use Rattle.samples.specs.NearMisses.{ends_at_entry_count, ends_at_member_count, ends_at_node_count, ends_at_code_count, ends_at_state_count}

-- what a sample asks, and what a definition answers
pub data Question : Type 0 where
  -- the verdict on a claim and a proof
  check : List ℕ → List ℕ → Question
  -- the verdict and the first three words of an evaluation
  evaluate : List ℕ → List ℕ → Question
  -- opening, presenting a claim and a proof under a tag, taking the permit twice
  take_twice : ℕ → List ℕ → List ℕ → Question

pub data Answer : Type 0 where
  verdict_is : Verdict → Answer
  words_are : Verdict → List ℕ → Answer
  permits_are : Permit → Permit → Answer

pub record Sample : Type 0 where
  pub question : Question
  pub answer : Answer

-- lent slices of the lengths that refusal 1 asks for
abbrev lent : Lent
lent = record {
  entries = replicate 256 blank;
  nodes = replicate 1024 (record { rule = 0; principal = 0; first = 0; second = 0; back = 0; count = 0 });
  codes = replicate 24576 0;
}

abbrev lent_words : LentWords
lent_words = record { entries = replicate 256 blank; words = replicate 256 0 }

abbrev presented_once : ℕ → List ℕ → List ℕ → Gate
presented_once tag claim proof = (presenting (opening start).gate tag claim proof lent).gate

abbrev evaluated : List ℕ → List ℕ → Answer
evaluated claim model = let done = evaluating claim model lent_words in words_are done.answer (take 3 done.lent.words)

pub answered : Question → Answer
unfolding verdict presenting evaluating opening taking
answered (check claim proof) = verdict_is (verdict claim proof)
answered (evaluate claim model) = evaluated claim model
answered (take_twice tag claim proof) =
    let held = presented_once tag claim proof in
    let once = taking held in
    permits_are once.answer (taking once.gate).answer

unfoldable pub samples : List Sample
unfolding nu_box mu_box loop_of_nu loop_of_mu loop_of_mu_with_f loop_of_focused_mu box_beside_box box_of_box empty_loop or_of_letters or_then_ax1 mu_of_own_name diamond_above no_successor own_successor
samples =
    -- nu of box, with a loop that is in focus throughout and has a box
    record { question = check nu_box loop_of_nu; answer = verdict_is accepted }
    -- the same as mu: focus is dropped at the unfolding, so the leaf is not its companion's sequent
    ∷ record { question = check mu_box loop_of_mu; answer = verdict_is (refused 38 3) }
    -- the same with focus brought back by F before the leaf: equal sequents, a bad path
    ∷ record { question = check mu_box loop_of_mu_with_f; answer = verdict_is (refused 39 4) }
    -- the first sample less its nu and its box: focus, and no box on the loop
    ∷ record { question = check nu_box empty_loop; answer = verdict_is (refused 39 1) }
    -- or of a letter and its negation, rule 2 then Ax1
    ∷ record { question = check or_of_letters or_then_ax1; answer = verdict_is accepted }
    -- mu of its own name, nothing between: unguarded
    ∷ record { question = check mu_of_own_name loop_of_mu; answer = verdict_is (refused 23 1) }
    -- a diamond above a fixpoint, over that one's name: 21 at the diamond
    ∷ record { question = check diamond_above loop_of_nu; answer = verdict_is (refused 21 3) }
    -- one state: name, box and mu are true where no successor exists
    ∷ record { question = evaluate mu_box no_successor; answer = words_are accepted (1 ∷ 1 ∷ 1 ∷ []) }
    -- with itself as successor mu of box is false, nu of box true
    ∷ record { question = evaluate mu_box own_successor; answer = words_are accepted (0 ∷ 0 ∷ 0 ∷ []) }
    ∷ record { question = evaluate nu_box own_successor; answer = words_are accepted (1 ∷ 1 ∷ 1 ∷ []) }
    -- taking twice: the tag, then 52
    ∷ record { question = take_twice 7 nu_box loop_of_nu; answer = permits_are (granted 7) (denied 52 0) }
    -- two readings that look sound: mu unfolded with its focus kept; a box step that keeps another box
    ∷ record { question = check mu_box loop_of_focused_mu; answer = verdict_is (refused 37 1) }
    ∷ record { question = check box_of_box box_beside_box; answer = verdict_is (refused 37 0) }
    -- near misses: each fails one condition and keeps all others. Soundness does not need most of these conditions, so that a definition and
    -- its test without one of them would still be proved; each comment says what they would then answer
    -- a loop in focus with a box is good, and U may stand on it while a focused member is left; without 'rule 9 is now allowed': 39 at 6
    ∷ record { question = check nu_of_box_or_letter letter_dropped; answer = verdict_is accepted }
    ∷ record { question = check nu_of_box_or_letter letter_unfocused; answer = verdict_is accepted }
    -- no rule is barred but 8: every other one stands on the path; with any of them barred: 39 at 9
    ∷ record { question = check nu_of_and_or_mu every_rule_but_f; answer = verdict_is accepted }
    -- the path begins at the companion: F, and a sequent without focus, stand above it; with the path from the root: 39 at 5
    ∷ record { question = check nu_box focus_lost_above; answer = verdict_is accepted }
    -- U takes the last focus on the loop: only F brings one into being, so without F the leaf is not its companion's sequent (38), and
    -- with F the path is bad (39), by the F and by the sequents without focus below the U; with neither condition: accepted
    ∷ record { question = check nu_box last_focus_left; answer = verdict_is (refused 38 4) }
    ∷ record { question = check nu_box last_focus_brought_back; answer = verdict_is (refused 39 5) }
    -- no rule on a loop is 8: F as the only fault; without it: accepted
    ∷ record { question = check nu_of_box_or_mu letter_focused; answer = verdict_is (refused 39 7) }
    -- every loop is walked: the first is good, the second has no box; with the first alone walked: accepted
    ∷ record { question = check nu_of_box_twice good_loop_then_bad; answer = verdict_is (refused 39 6) }
    -- each sequent has a focused member: none has one, all else is right; without it: accepted, and mu of box is false on a circle
    ∷ record { question = check mu_box loop_out_of_focus; answer = verdict_is (refused 39 4) }
    -- focus at one node alone needs F there; where one focused node is enough and F is allowed: accepted. (Focus at the two ends alone: the third sample)
    ∷ record { question = check mu_box loop_focused_once; answer = verdict_is (refused 39 5) }
    -- a back link leads to rule 10: an ancestor of rule 6 with the same sequent; with any rule: accepted
    ∷ record { question = check nu_box loop_without_d; answer = verdict_is (refused 38 2) }
    -- the principal belongs to the sequent: W of a code that does not leaves the sequent as it is; without it: accepted
    ∷ record { question = check (true_beside_false (0 ∷ [])) (dropped 3 (1 ∷ [])); answer = verdict_is (refused 37 0) }
    -- F from out of focus, U from focus: with either focus: accepted
    ∷ record { question = check only_true focused_twice; answer = verdict_is (refused 37 0) }
    ∷ record { question = check only_true unfocused_twice; answer = verdict_is (refused 37 1) }
    -- the root has the members in focus, and all of them: with either focus, or with fewer members: accepted
    ∷ record { question = check only_true (by_ax2 0); answer = verdict_is (refused 36 0) }
    ∷ record { question = check (true_beside_false (0 ∷ 1 ∷ [])) (by_ax2 1); answer = verdict_is (refused 36 0) }
    -- every node but 0 is a child once: an orphan, then one child in both places of an and; without either half: accepted
    ∷ record { question = check only_true orphan; answer = verdict_is (refused 35 1) }
    ∷ record { question = check true_and_true one_child_twice; answer = verdict_is (refused 35 0) }
    -- guardedness goes down bodies: the outer's name stands unguarded in the inner fixpoint; where a fixpoint ends the walk or guards: accepted
    ∷ record { question = check name_through_fixpoint (by_ax2 13); answer = verdict_is (refused 23 5) }
    -- a box above the inner fixpoint guards; where only a box right above the name does: 23 at 3
    ∷ record { question = check (fixpoint_under_box 8 8) (by_ax2 9); answer = verdict_is accepted }
    -- alternation: the same with a mu inside a nu, and a nu inside a mu; without it, or with one half: accepted
    ∷ record { question = check (fixpoint_under_box 9 8) (by_ax2 9); answer = verdict_is (refused 22 1) }
    ∷ record { question = check (fixpoint_under_box 8 9) (by_ax2 9); answer = verdict_is (refused 22 1) }
    -- letters 0 to 31, plain and negated: with 32 allowed: accepted; with 31 not allowed: 20 at 1
    ∷ record { question = check (true_beside_letter 2 31) (by_ax2 1); answer = verdict_is accepted }
    ∷ record { question = check (true_beside_letter 2 32) (by_ax2 1); answer = verdict_is (refused 20 1) }
    ∷ record { question = check (true_beside_letter 3 32) (by_ax2 1); answer = verdict_is (refused 20 1) }
    -- members strictly rising: falling, and twice the same; as sets: accepted
    ∷ record { question = check (true_beside_false (1 ∷ 0 ∷ [])) (dropped 3 (1 ∷ 3 ∷ [])); answer = verdict_is (refused 14 14) }
    ∷ record { question = check (true_beside_false (0 ∷ 0 ∷ [])) (by_ax2 1); answer = verdict_is (refused 14 14) }
    -- codes strictly rising: falling, and twice the same; as sets: accepted
    ∷ record { question = check (true_beside_false (0 ∷ 1 ∷ [])) (dropped 3 (3 ∷ 1 ∷ [])); answer = verdict_is (refused 34 15) }
    ∷ record { question = check only_true code_twice; answer = verdict_is (refused 34 13) }
    -- members are never names, a claim's: 34 where a name may be a member there alone, accepted where it may in both; a sequent's: accepted
    ∷ record { question = check name_as_member (dropped 7 (1 ∷ 3 ∷ [])); answer = verdict_is (refused 14 24) }
    ∷ record { question = check nu_box leaf_with_name; answer = verdict_is (refused 34 36) }
    -- T-03, members are compared by formula: the root's are the claim's where true stands under two numbers for true, and for true under two
    -- numbers; with the claim's or the root's read by entry numbers: 36 at 0
    ∷ record { question = check (two_true (0 ∷ [])) both_by_ax2; answer = verdict_is accepted }
    ∷ record { question = check (two_true (0 ∷ 1 ∷ [])) (by_ax2 1); answer = verdict_is accepted }
    -- true and true are one member for Ax2, a letter and itself one for Ax1; by entry numbers: 37 at 0
    ∷ record { question = check (two_true (0 ∷ 1 ∷ [])) both_by_ax2; answer = verdict_is accepted }
    ∷ record { question = check letter_twice all_by_ax1; answer = verdict_is accepted }
    -- a principal leaves under every number, with rule 2; two boxes alike are one for rule 4; by entry numbers: 37 at 0
    ∷ record { question = check two_ors or_of_two; answer = verdict_is accepted }
    ∷ record { question = check two_boxes box_of_two; answer = verdict_is accepted }
    -- so W of one that leaves the other is no W; by entry numbers: accepted
    ∷ record { question = check (two_true (0 ∷ 1 ∷ [])) (dropped 3 (1 ∷ 3 ∷ [])); answer = verdict_is (refused 37 0) }
    -- with focus: in focus and out of it are two members, for Ax2 and for rule 4; with either focus: accepted
    ∷ record { question = check true_and_mu_of_true true_in_either_focus; answer = verdict_is (refused 37 1) }
    ∷ record { question = check box_and_mu_of_box box_in_either_focus; answer = verdict_is (refused 37 1) }
    -- the choice of bound names does not count: nu x box x and nu y box y; where it does: 36 at 0
    ∷ record { question = check (nus (0 ∷ 3 ∷ [])) (dropped 13 (1 ∷ 13 ∷ [])); answer = verdict_is accepted }
    -- a free name is replaced by its fixpoint: the box of x by itself and the box of nu x box x; where it is left: 36 at 0
    ∷ record { question = check (nus (0 ∷ 2 ∷ [])) (dropped 15 (1 ∷ 15 ∷ [])); answer = verdict_is accepted }
    -- nu x box x is not its unfolding, the box of it, nor a nu over that; where unfolding does not count: accepted, and where fixpoints are compared
    -- by their bodies, each by itself: the second accepted
    ∷ record { question = check (nus (0 ∷ 3 ∷ [])) (dropped 15 (1 ∷ 15 ∷ [])); answer = verdict_is (refused 36 0) }
    ∷ record { question = check (nus (0 ∷ 3 ∷ [])) (dropped 17 (1 ∷ 17 ∷ [])); answer = verdict_is (refused 36 0) }
    -- nu x nu y (box x or box y) is not the same with x and y exchanged; where a bound name is that of the innermost fixpoint: accepted
    ∷ record { question = check (nested_nus (0 ∷ 7 ∷ [])) (dropped 29 (1 ∷ 29 ∷ [])); answer = verdict_is (refused 36 0) }
    -- a principal may have another number than its member, nu y box y for nu x box x; with entry numbers: 37 at 0
    ∷ record { question = check (nus (0 ∷ 3 ∷ [])) (dropped 13 (1 ∷ 7 ∷ [])); answer = verdict_is accepted }
    -- but not that of a name, nor one out of range: these stand for the nu and for false, which are members; where they may: accepted
    ∷ record { question = check (nus (0 ∷ 3 ∷ [])) (dropped 3 (1 ∷ 7 ∷ [])); answer = verdict_is (refused 37 0) }
    ∷ record { question = check (true_beside_false (0 ∷ 1 ∷ [])) (dropped 201 (1 ∷ 3 ∷ [])); answer = verdict_is (refused 37 0) }
    -- the loop of nu with another number at the root, in the leaf, at each step; where the claim, the leaf, rule 10 goes by entry numbers: 36 at 0,
    -- 38 at 3, 37 at 0
    ∷ record { question = check (nus (3 ∷ [])) loop_of_other; answer = verdict_is accepted }
    ∷ record { question = check (nus (3 ∷ [])) leaf_of_other; answer = verdict_is accepted }
    ∷ record { question = check (nus (3 ∷ [])) loop_by_turns; answer = verdict_is accepted }
    -- T-04: a box step takes diamonds of its own action, of any from 0 to 15: of another: accepted
    ∷ record { question = check (box_and_diamond 3 3) box_then_ax1; answer = verdict_is accepted }
    ∷ record { question = check (box_and_diamond 15 15) box_then_ax1; answer = verdict_is accepted }
    ∷ record { question = check (box_and_diamond 1 2) box_then_ax1; answer = verdict_is (refused 37 0) }
    -- an action above 15, and a 0 that is written out, at the first such entry: let through: accepted
    ∷ record { question = check (box_and_diamond 16 16) box_then_ax1; answer = verdict_is (refused 71 2) }
    ∷ record { question = check (box_and_diamond 0 0) box_then_ax1; answer = verdict_is (refused 71 2) }
    ∷ record { question = check (box_and_diamond 1 0) box_then_ax1; answer = verdict_is (refused 71 3) }
    -- 71 at an entry comes before 20 at a later one, after 20 at its own, and before 21 to 23 anywhere
    ∷ record { question = check action_then_bounds (by_ax2 1); answer = verdict_is (refused 71 1) }
    ∷ record { question = check action_and_bounds (by_ax2 1); answer = verdict_is (refused 20 1) }
    ∷ record { question = check unguarded_then_action (by_ax2 1); answer = verdict_is (refused 71 2) }
    -- B with a kind that has none and is no box or diamond is still an unfit map
    ∷ record { question = check letter_with_b (by_ax2 1); answer = verdict_is (refused 13 6) }
    -- each box looks at its own action; an old model has none but 0
    ∷ record { question = evaluate boxes_of_letter two_ways; answer = words_are accepted (2 ∷ 3 ∷ 2 ∷ []) }
    ∷ record { question = evaluate boxes_of_letter one_way; answer = words_are accepted (2 ∷ 3 ∷ 3 ∷ []) }
    -- T-05: two goals, one tree for each, the nodes one after the other and by turns
    ∷ record { question = check twice (two_loops (0 ∷ 4 ∷ []) 4); answer = verdict_is accepted }
    ∷ record { question = check twice by_turns; answer = verdict_is accepted }
    -- each goal's root is compared with it, and 36 gives the root's number: of the first goal alone: accepted
    ∷ record { question = check (nu_goals ((2 ∷ []) ∷ (1 ∷ []) ∷ [])) (two_loops (0 ∷ 4 ∷ []) 4); answer = verdict_is (refused 36 4) }
    -- a root named as a child is a bad child number: where it may be one: 35 at 4, an orphan
    ∷ record { question = check twice (two_loops (0 ∷ 3 ∷ []) 4); answer = verdict_is (refused 35 2) }
    -- a leaf of the second tree linked into the first: with a climb past the root: accepted
    ∷ record { question = check twice (two_loops (0 ∷ 4 ∷ []) 0); answer = verdict_is (refused 38 7) }
    -- 16 goals pass; 17 give 72 at the goal count
    ∷ record { question = check (true_goals 16) (leaves first_sixteen 16); answer = verdict_is accepted }
    ∷ record { question = check (true_goals 17) (leaves first_sixteen 16); answer = verdict_is (refused 72 8) }
    -- each goal has at least one member, judged at its own count, and its members rise for themselves
    ∷ record { question = check (goals_of_true ((0 ∷ []) ∷ [] ∷ [])) (leaves (0 ∷ 1 ∷ []) 2); answer = verdict_is (refused 12 14) }
    ∷ record { question = check (goals_of_true ((0 ∷ []) ∷ (0 ∷ 0 ∷ []) ∷ [])) (leaves (0 ∷ 1 ∷ []) 2); answer = verdict_is (refused 14 18) }
    -- roots rise strictly and are nodes, each judged at its own place, before the nodes
    ∷ record { question = check (true_goals 2) (leaves (1 ∷ 0 ∷ []) 2); answer = verdict_is (refused 34 8) }
    ∷ record { question = check (true_goals 2) (leaves (0 ∷ 0 ∷ []) 2); answer = verdict_is (refused 34 8) }
    ∷ record { question = check (true_goals 2) (leaves (0 ∷ 2 ∷ []) 2); answer = verdict_is (refused 34 8) }
    -- node 0 is a root or an orphan
    ∷ record { question = check (true_goals 1) (leaves (1 ∷ []) 2); answer = verdict_is (refused 35 0) }
    -- a pair of unlike forms
    ∷ record { question = check twice one_form; answer = verdict_is (refused 30 0) }
    ∷ record { question = check only_true (leaves (0 ∷ []) 1); answer = verdict_is (refused 30 0) }
    -- either form is evaluated
    ∷ record { question = evaluate twice own_successor; answer = words_are accepted (1 ∷ 1 ∷ 1 ∷ []) }
    -- T-06: no goals are accepted with no nodes and no roots, without entries and with them, and a permit is given for them; with zero entries refused:
    -- 12 at 4, with zero goals refused: 72 at 6, with zero nodes refused: 32 at 4
    ∷ record { question = check (no_goals []) nothing; answer = verdict_is accepted }
    ∷ record { question = check (no_goals (truth ∷ [])) nothing; answer = verdict_is accepted }
    ∷ record { question = take_twice 7 (no_goals []) nothing; answer = permits_are (granted 7) (denied 52 0) }
    -- and only with that: node 0 at least is an orphan, a bad child number comes before it; where no goals ask for no trees: accepted
    ∷ record { question = check (no_goals []) one_node; answer = verdict_is (refused 35 0) }
    ∷ record { question = check (no_goals (truth ∷ [])) (leaves [] 1); answer = verdict_is (refused 35 0) }
    ∷ record { question = check (no_goals (truth ∷ [])) own_child; answer = verdict_is (refused 35 1) }
    -- PRF1 is of another form
    ∷ record { question = check (no_goals []) nothing_in_one_form; answer = verdict_is (refused 30 0) }
    -- zero entries with a goal: its first member is out of range, and it has one
    ∷ record { question = check (goals_of_nothing ((0 ∷ []) ∷ [])) nothing; answer = verdict_is (refused 14 10) }
    ∷ record { question = check (goals_of_nothing ([] ∷ [])) nothing; answer = verdict_is (refused 12 8) }
    -- a goal with zero nodes: its root is out of range, or is not there
    ∷ record { question = check (true_goals 1) (leaves (0 ∷ []) 0); answer = verdict_is (refused 34 6) }
    ∷ record { question = check (true_goals 1) nothing; answer = verdict_is (refused 31 6) }
    -- an evaluation without entries is done and writes no word; without goals it writes those of the entries
    ∷ record { question = evaluate (no_goals []) own_successor; answer = words_are accepted (0 ∷ 0 ∷ 0 ∷ []) }
    ∷ record { question = evaluate (no_goals (truth ∷ [])) own_successor; answer = words_are accepted (1 ∷ 0 ∷ 0 ∷ []) }
    -- bits 5 to 7 of a node's map are zero, and an entry's map has no bit but its kind's: unread bits: accepted
    ∷ record { question = check only_true (map_of_ax2 0x30); answer = verdict_is (refused 33 6) }
    ∷ record { question = check only_true (map_of_ax2 0x50); answer = verdict_is (refused 33 6) }
    ∷ record { question = check only_true (map_of_ax2 0x90); answer = verdict_is (refused 33 6) }
    ∷ record { question = check (map_of_true 4) (by_ax2 1); answer = verdict_is (refused 13 6) }
    -- no bytes follow: unread bytes: accepted
    ∷ record { question = check (only_true ++ (0 ∷ [])) (by_ax2 1); answer = verdict_is (refused 11 12) }
    ∷ record { question = check only_true (by_ax2 1 ++ (0 ∷ [])); answer = verdict_is (refused 31 11) }
    -- the counts in CLM1 and PRF1: 1 to 256 entries, 24 members, 1,024 nodes, 24 codes, 64 states; one in range is read past, to the early end of the file
    ∷ record { question = check (ends_at_entry_count 0 0) (by_ax2 1); answer = verdict_is (refused 12 4) }
    ∷ record { question = check (ends_at_entry_count 0 1) (by_ax2 1); answer = verdict_is (refused 11 6) }
    ∷ record { question = check (ends_at_entry_count 1 1) (by_ax2 1); answer = verdict_is (refused 12 4) }
    ∷ record { question = check (ends_at_member_count 0) (by_ax2 1); answer = verdict_is (refused 12 8) }
    ∷ record { question = check (ends_at_member_count 24) (by_ax2 1); answer = verdict_is (refused 11 10) }
    ∷ record { question = check (ends_at_member_count 25) (by_ax2 1); answer = verdict_is (refused 12 8) }
    ∷ record { question = check only_true (ends_at_node_count 0 0); answer = verdict_is (refused 32 4) }
    ∷ record { question = check only_true (ends_at_node_count 0 4); answer = verdict_is (refused 31 6) }
    ∷ record { question = check only_true (ends_at_node_count 1 4); answer = verdict_is (refused 32 4) }
    ∷ record { question = check only_true (ends_at_code_count 0); answer = verdict_is (refused 32 8) }
    ∷ record { question = check only_true (ends_at_code_count 24); answer = verdict_is (refused 31 9) }
    ∷ record { question = check only_true (ends_at_code_count 25); answer = verdict_is (refused 32 8) }
    ∷ record { question = evaluate only_true (ends_at_state_count 0); answer = words_are (refused 62 4) (0 ∷ 0 ∷ 0 ∷ []) }
    ∷ record { question = evaluate only_true (ends_at_state_count 64); answer = words_are (refused 61 5) (0 ∷ 0 ∷ 0 ∷ []) }
    ∷ record { question = evaluate only_true (ends_at_state_count 65); answer = words_are (refused 62 4) (0 ∷ 0 ∷ 0 ∷ []) }
    ∷ []

pub answers : List Sample → List Answer
answers [] = []
answers (x ∷ l) = answered x.question ∷ answers l

pub expected : List Sample → List Answer
expected [] = []
expected (x ∷ l) = x.answer ∷ expected l

pub samples_right : answers samples ≡ expected samples
unfolding answers expected samples answered ℕ_discrete table_by opens state
samples_right = refl
