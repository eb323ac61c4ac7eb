-- each kind by its own law; what is read is an entry's word
use mathlib.Core.Path.{sym, ◌∙◌}
use native.Mathlib.Omega.{arith}
use Rattle.formula.specs.Shape.{step, diamond, box}
use Rattle.forming.specs.Claim.{diamond_at, box_at, a_entry, b_below, letter_small}
use Rattle.forming.specs.Ready.{formed_leaf, formed_or, formed_and, formed_diamond, formed_box, formed_above}
use Rattle.forming.proofs.formed.Goals as goal

pub leaf_word-requires : goal.leaf_word-requires
leaf_word-requires c =
    let given = c.requires in
    (c.if-kind-lt-OR.true, λ h. letter_small given.ready.claim _ given.e_in_bounds h c.if-kind-lt-OR.true)

pub returns-then-kind-lt-OR : goal.returns-then-kind-lt-OR
returns-then-kind-lt-OR c =
    let given = c.requires in
    formed_leaf given.ready _ _ given.e_in_bounds c.if-kind-lt-OR.true _ c.leaf_word.ensures

pub bounds-words-wide : goal.bounds-words-wide
bounds-words-wide c =
    let given = c.requires in
    omega (arith, c.wide.ensures, a_entry given.ready.claim _ given.e_in_bounds c.if-kind-lt-OR.false, given.ready.words_there, given.ready.claim.few)

pub bounds-words-q : goal.bounds-words-q
bounds-words-q c =
    let given = c.requires in
    omega (arith, b_below given.ready.claim _ given.e_in_bounds c.if-kind-lt-OR.false (omega arith), given.e_in_bounds, c.wide-q.ensures, given.ready.words_there, given.ready.claim.few)

pub returns-in-4 : goal.returns-in-4
returns-in-4 c =
    let given = c.requires in
    formed_or given.ready _ _ given.e_in_bounds _ _ c.wide.ensures c.wide-q.ensures c.in-4.is

pub bounds-words-q-in-5 : goal.bounds-words-q-in-5
bounds-words-q-in-5 c =
    let given = c.requires in
    omega (arith, b_below given.ready.claim _ given.e_in_bounds c.if-kind-lt-OR.false (omega arith), given.e_in_bounds, c.wide-q.ensures, given.ready.words_there, given.ready.claim.few)

pub returns-in-5 : goal.returns-in-5
returns-in-5 c =
    let given = c.requires in
    formed_and given.ready _ _ given.e_in_bounds _ _ c.wide.ensures c.wide-q.ensures c.in-5.is

pub returns-in-6 : goal.returns-in-6
returns-in-6 c =
    let given = c.requires in
    let action = c.wide-q.ensures in
    let operand = c.wide.ensures in
    formed_diamond given.ready _ _ _ _ _ (diamond_at given.ready.claim _ given.e_in_bounds c.in-6.is ∙ sym (λ i. step (diamond (action i)) (operand i))) c.diamond_word.ensures

pub returns-in-7 : goal.returns-in-7
returns-in-7 c =
    let given = c.requires in
    let action = c.wide-q.ensures in
    let operand = c.wide.ensures in
    formed_box given.ready _ _ _ _ _ (box_at given.ready.claim _ given.e_in_bounds c.in-7.is ∙ sym (λ i. step (box (action i)) (operand i))) c.box_word.ensures

pub returns-in_default : goal.returns-in_default
returns-in_default c =
    let given = c.requires in
    formed_above given.ready _ _ given.e_in_bounds _ c.wide.ensures (omega arith)
