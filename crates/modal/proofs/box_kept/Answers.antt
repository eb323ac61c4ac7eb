-- `box_kept` meets its contract: once both tests are passed, every member is modal and has a target.
use mathlib.Core.Path.{◌≡◌, refl, ap, ◌∙◌}
use mathlib.Core.List.{List}
use Prim.Native.Nat.{ℕ}
use lib.ListN.{get_or}
use Rattle.verdict.specs.Sets.{elements}
use Rattle.verdict.specs.Tests.{all, each, same as sameSet}
use Rattle.written.specs.Canon.{key}
use Rattle.calculus.specs.Judge.{keys, box_kept_lem as Kept}
use Rattle.sequents.specs.Keys.{key_of_lem}
use Rattle.sequents.specs.CodeSet.{holds_none}
use Rattle.sequents.specs.KeptLaws.{was_false, was_true, this_kind, other_kind}
use Rattle.formula.specs.Codes.{entry_of_lem}
use Rattle.sequents.specs.Columned.{numbered}
use Rattle.modal.specs.BoxLaws.{boxed, Modal, others_boxed, targets_stepped, modal}
use Rattle.std.specs.Prelude.{not}
use Rattle.modal.proofs.box_kept.Goals as goal
use Rattle.modal.proofs.box_kept.Goals.{After-all_boxed, Else-not-all_boxed}

-- what the test of all members says: it is given the principal's key and action
tested : (c : After-all_boxed) → let a = c.args in
    c.all_boxed.result
    ≡ all (boxed a.table.now.columns.kinds.now a.table.now.columns.b.now a.table.now.canon.now (key_of_lem a.table.now.canon.now a.principal) (get_or a.table.now.columns.b.now (entry_of_lem a.principal) 0)) a.codes.now
tested c = rw (c.key_of-key.ensures.1, c.entry_of-entry.ensures) at c.all_boxed.ensures

-- where both tests are passed, every member has an operand
modals : (c : Else-not-all_boxed) → let a = c.args in
    (d : ℕ) → elements a.codes.now d → Modal a.table.now.columns.kinds.now a.table.now.columns.a.now a.table.now.columns.b.now a.table.now.columns.count d
modals c =
    let p = c.requires in
    modal p.0 _ p.2 (rw c.entry_of-entry.ensures at c.if-table-entry-ne-BOX.false) (was_true (rw (c.key_of-key.ensures.1, c.entry_of-entry.ensures) at c.all_boxed.ensures) (ap not c.if-not-all_boxed.false))

pub returns-then-table-entry-ne-BOX : goal.returns-then-table-entry-ne-BOX
unfolding Kept
returns-then-table-entry-ne-BOX c m b M = rw (other_kind c.requires.0 _ _ _ b c.entry_of-entry.ensures c.if-table-entry-ne-BOX.true) refl

pub returns-then-not-all_boxed : goal.returns-then-not-all_boxed
unfolding Kept
returns-then-not-all_boxed c m b M =
    let p = c.requires in
    rw (
      this_kind p.0 _ _ _ b c.entry_of-entry.ensures c.if-table-entry-ne-BOX.false,
      was_false (tested (goal.at.returns-then-not-all_boxed c).After-all_boxed ∙ others_boxed p.0 _ p.2) (ap not c.if-not-all_boxed.true),
    ) refl

pub put_targets-requires : goal.put_targets-requires
put_targets-requires c =
    let p = c.requires in
    (p.1, λ d o. (modals (goal.at.put_targets-requires c).Else-not-all_boxed d o).within, holds_none)

pub returns : goal.returns
unfolding Kept keys
returns c m b M =
    let a = c.args in
    let p = c.requires in
    let told = modals (goal.at.returns c).Else-not-all_boxed in
    let t = numbered a.table.now in
    rw (
      this_kind p.0 _ _ _ b c.entry_of-entry.ensures c.if-table-entry-ne-BOX.false,
      was_true (tested (goal.at.returns c).After-all_boxed ∙ others_boxed p.0 _ p.2) (ap not c.if-not-all_boxed.false),
    )
    (c.same.ensures _ _ M (c.put_targets.ensures a.table.now.columns.b.now a.table.now.columns.count told) ∙ ap (λ (l : List ℕ). sameSet (each (key t) m) l) (targets_stepped p.0 _ p.2 told))
