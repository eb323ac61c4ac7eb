-- The count is read, then as many entries are walked over.
use Rattle.verdict.proofs.PassedOn.{passed_on}
use Rattle.claim_entries.specs.ClaimEntries.{entries_cut, entries_place, entries_tell}
use Rattle.claim_entries.proofs.read_entries.Goals as goal

pub store_entries-requires : goal.store_entries-requires
store_entries-requires c = record { entry_arrays = c.requires.entry_arrays; in_file = entries_place _ _ c.in_ok-count.ensures }

pub returns-in_err-count : goal.returns-in_err-count
returns-in_err-count c = rw (passed_on _ c.from_residual.ensures.1) (entries_cut _ _ _ c.in_err-count.ensures)

pub returns : goal.returns
returns c = entries_tell _ _ c.in_ok-count.ensures _ c.store_entries.result c.store_entries.ensures
