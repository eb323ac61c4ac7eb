-- A known kind, then its fields; field B of a box or diamond holds its action.
use mathlib.Core.Path.{◌≡◌, sym, ◌∙◌}
use mathlib.Core.Bool.{true, false≢true}
use Prim.Native.Nat.{◌≤◌}
use borrow.Author.Tests.{le-leb, lt-leb}
use Rattle.formula.specs.Kind
use Rattle.formula.specs.Fields.{has_a_lem}
use Rattle.writing.specs.FieldEnds.{may_hold_lem}
use Rattle.vetting.specs.FitLaws.{field_tested, action_held, kind_held}
use Rattle.vetting.proofs.entry_fits.Goals as goal
use Rattle.vetting.proofs.entry_fits.Goals.{Then-may_hold, then-kind-le-NAME, else-kind-le-NAME}

-- a known kind, and field A fits
known : (c : Then-may_hold) → (c.args.kind ≤ Kind.NAME) × (may_hold_lem (has_a_lem c.args.kind) c.args.a ≡ true)
known c =
    elim c.if-kind-le-NAME.branch [
      | then-kind-le-NAME w ↦ (w.if-kind-le-NAME.true, sym (field_tested c.args.a w.has_a.ensures w.may_hold.ensures) ∙ sym w.value-is ∙ c.if-may_hold.true)
      | else-kind-le-NAME w ↦ absurd (false≢true (sym (lt-leb c.args.kind Kind.NAME w.if-kind-le-NAME.false) ∙ sym w.value-is ∙ c.if-may_hold.true))
    ]

pub returns-then-is_modal : goal.returns-then-is_modal
returns-then-is_modal c =
    let (low, a) = known (goal.at.returns-then-is_modal c).Then-may_hold in
    rw (a, le-leb c.args.kind Kind.NAME low, action_held c.args.kind c.args.b (sym c.is_modal.ensures ∙ c.if-is_modal.true)) c.if-is_modal.true

pub returns-else-is_modal : goal.returns-else-is_modal
returns-else-is_modal c =
    let (low, a) = known (goal.at.returns-else-is_modal c).Then-may_hold in
    rw (a, le-leb c.args.kind Kind.NAME low, kind_held c.args.kind c.args.b (sym c.is_modal.ensures ∙ c.if-is_modal.false))
    (field_tested c.args.b c.has_b.ensures c.may_hold-else-is_modal.ensures)

pub returns-else-may_hold : goal.returns-else-may_hold
returns-else-may_hold c =
    elim c.if-kind-le-NAME.branch [
      | then-kind-le-NAME w ↦ rw (sym (field_tested c.args.a w.has_a.ensures w.may_hold.ensures) ∙ sym w.value-is ∙ c.if-may_hold.false, le-leb c.args.kind Kind.NAME w.if-kind-le-NAME.true) c.if-may_hold.false
      | else-kind-le-NAME w ↦ rw (lt-leb c.args.kind Kind.NAME w.if-kind-le-NAME.false) c.if-may_hold.false
    ]
