-- the columns that were read have a row for each entry that is stored from them; with a refusal none is
use Rattle.std.proofs.Common.{refl, arith}
use Rattle.verdict.specs.Lists.{values_from}
use Rattle.gate.specs.EvaluateCall.{evaluate_call}
use Rattle.gate.proofs.evaluate.focus_evaluate.Goals as goal

pub store_entries-requires : goal.store_entries-requires
store_entries-requires c =
    let stored = c.in-Ok.ensures.stored in
    ((omega (arith, stored.0), omega (arith, stored.0), omega (arith, stored.0)), omega (arith, stored.1))

pub returns-in-Ok : goal.returns-in-Ok
returns-in-Ok c = evaluate_call c.in-Ok.ensures refl c.store_entries.ensures

pub returns-in-Err : goal.returns-in-Err
unfolding values_from
returns-in-Err c = evaluate_call c.in-Err.ensures c.pack_wide.ensures.0 refl
