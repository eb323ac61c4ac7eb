use native.Mathlib.Omega.{arith}
use mathlib.Core.Path.{sym, ◌∙◌}
use Rattle.vetting.specs.StepLaws.{finds_stop, finds_next}
use Rattle.vetting.specs.WalkLaws.{entries_begin, entries_stop, entries_on, entries_end_lem}
use Rattle.vetting.proofs.judge_entries.Goals as goal

pub loop-i-init : goal.loop-i-init
loop-i-init c = (omega arith, entries_begin _ _ _ _)

pub returns-then-not-entry_fits : goal.returns-then-not-entry_fits
returns-then-not-entry_fits c =
    finds_stop
    (entries_stop c.loop-i.invariant.1 c.loop-i-test.true
    (sym c.entry_fits.ensures ∙ c.if-not-entry_fits.true))
    c.at.ensures

pub loop-i-preserved : goal.loop-i-preserved
loop-i-preserved c =
    let width = c.entry_width-at.ensures in
    let on =
    entries_on c.loop-i.invariant.1 c.loop-i-test.true
    (sym c.entry_fits.ensures ∙ c.if-not-entry_fits.false) in
    (omega arith, rw width.0 on)

pub returns : goal.returns
returns c = finds_next (entries_end_lem c.loop-i.invariant.1 (omega arith)) (omega arith)
