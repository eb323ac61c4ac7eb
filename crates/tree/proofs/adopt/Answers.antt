-- one law of AdoptLaws for each return
use mathlib.Core.Path.{◌≡◌, sym, ◌∙◌}
use mathlib.Core.Bool.{true, false}
use lib.ListN.{get_or}
use Rattle.formula.specs.Fields.{has_first_lem}
use Rattle.tree.specs.AdoptLaws.{adopts_none, first_refused, adopts_one, adopts_two}
use Rattle.tree.proofs.adopt.Goals as goal
use Rattle.tree.proofs.adopt.Goals.{Else-not-has_first, Then-not-has_first}

no_first : (c : Then-not-has_first) → has_first_lem (get_or c.args.tree.now.rules.now c.args.v 0) ≡ false
no_first c = sym c.has_first.ensures ∙ c.if-not-has_first.true

some_first : (c : Else-not-has_first) → has_first_lem (get_or c.args.tree.now.rules.now c.args.v 0) ≡ true
some_first c = sym c.has_first.ensures ∙ c.if-not-has_first.false

pub returns-then-not-has_first : goal.returns-then-not-has_first
returns-then-not-has_first c roots taken = adopts_none roots _ _ _ _ _ c.requires.1 taken (no_first c)

pub returns-then-not-take_child : goal.returns-then-not-take_child
returns-then-not-take_child c roots taken =
    let given = c.requires in
    first_refused roots _ _ _ _ _ given.1 taken (some_first (goal.at.returns-then-not-take_child c).Else-not-has_first) (rw c.wide.ensures at c.take_child.ensures) (c.if-not-take_child.true)

pub returns-then-not-has_second : goal.returns-then-not-has_second
returns-then-not-has_second c roots taken =
    adopts_one roots _ _ _ _ _ c.requires.1 taken (some_first (goal.at.returns-then-not-has_second c).Else-not-has_first) (rw c.wide.ensures at c.take_child.ensures) (c.if-not-take_child.false)
    (sym c.has_second.ensures ∙ c.if-not-has_second.true)

pub returns : goal.returns
returns c roots taken =
    adopts_two roots _ _ _ _ _ c.requires.1 taken (some_first (goal.at.returns c).Else-not-has_first) (rw c.wide.ensures at c.take_child.ensures) (c.if-not-take_child.false)
    (sym c.has_second.ensures ∙ c.if-not-has_second.false)
    (rw c.wide-2.ensures at c.take_child-2.ensures)
