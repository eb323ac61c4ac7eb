use Rattle.std.proofs.Common.{refl, arith}
use Rattle.records.specs.RecordLaws.{entries_none, entries-more}
use Rattle.records.proofs.load_entries.Goals as goal

pub loop-i-init : goal.loop-i-init
loop-i-init c = entries_none _ _ _ _

pub loop-i-preserved : goal.loop-i-preserved
loop-i-preserved c =
    entries-more c.args.entries.now c.loop-i.i _ (omega (arith, c.requires)) refl
    (omega (arith, c.requires)) (omega (arith, c.requires)) (omega (arith, c.requires)) c.loop-i.invariant c.set_entry.ensures
