-- Each test tells a name in common of two sets, and the sets are those that `Seen` says.
use mathlib.Core.Path.{◌≡◌, sym, ap, ◌∙◌}
use mathlib.Core.Bool.{true}
use Rattle.verdict.specs.Tells.{Tells}
use Rattle.verdict.specs.Shown.{earned}
use Rattle.formula.specs.Fields.{is_fixpoint_lem}
use Rattle.name_sets.specs.NameSets.{Shared}
use Rattle.scopes.specs.Faults.{opposite_of, earns_21, earns_none, earns_22, earns_23, earns_nothing}
use Rattle.scopes.proofs.entry.fault.Goals as goal
use Rattle.scopes.proofs.entry.fault.Goals.{After-meet-2, Else-not-is_fixpoint}

at_fixpoint : (c : Else-not-is_fixpoint) → is_fixpoint_lem c.args.kind ≡ true
at_fixpoint c = sym c.is_fixpoint.ensures ∙ c.if-not-is_fixpoint.false

opposites : (c : After-meet-2) →
    let given = c.args in
    Tells c.meet-2.result (Shared given.free (opposite_of given.kind given.mus given.nus))
opposites c = rw c.opposite.ensures at c.meet-2.ensures

pub returns-then-meet : goal.returns-then-meet
returns-then-meet c = λ t a b s. ap earned (earns_21 s c.meet.ensures c.if-meet.true)

pub returns-then-not-is_fixpoint : goal.returns-then-not-is_fixpoint
returns-then-not-is_fixpoint c =
    λ t a b s. ap earned (earns_none s c.meet.ensures c.if-meet.false (sym c.is_fixpoint.ensures ∙ c.if-not-is_fixpoint.true))

pub returns-then-meet-2 : goal.returns-then-meet-2
returns-then-meet-2 c =
    λ t a b s. ap earned (earns_22 s c.meet.ensures c.if-meet.false (at_fixpoint (goal.at.returns-then-meet-2 c).Else-not-is_fixpoint) (opposites (goal.at.returns-then-meet-2 c).After-meet-2) c.if-meet-2.true)

pub returns-then-meet-3 : goal.returns-then-meet-3
returns-then-meet-3 c =
    λ t a b s. ap earned (earns_23 s c.meet.ensures c.if-meet.false (at_fixpoint (goal.at.returns-then-meet-3 c).Else-not-is_fixpoint) (opposites (goal.at.returns-then-meet-3 c).After-meet-2) c.if-meet-2.false
    c.only.result c.only.ensures c.meet-3.ensures c.if-meet-3.true)

pub returns : goal.returns
returns c =
    λ t a b s. ap earned (earns_nothing s c.meet.ensures c.if-meet.false (at_fixpoint (goal.at.returns c).Else-not-is_fixpoint) (opposites (goal.at.returns c).After-meet-2) c.if-meet-2.false
    c.only.result c.only.ensures c.meet-3.ensures c.if-meet-3.false)
