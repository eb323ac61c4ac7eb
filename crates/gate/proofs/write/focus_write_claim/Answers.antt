-- what is written from the loaded columns is what the records promise
use Rattle.lent_records.specs.WriteCall.{write_claim_call}
use Rattle.gate.proofs.write.focus_write_claim.Goals as goal

pub returns : goal.returns
returns c = write_claim_call c.args.form c.args.entries.now c.args.goal_counts.now c.loadable-loaded.ensures c.load_entries.ensures c.write_claim.ensures
