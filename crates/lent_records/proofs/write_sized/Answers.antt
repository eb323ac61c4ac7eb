-- The records are loaded into columns with so many rows, and written from there.
use Rattle.lent_records.specs.WriteCall.{write_proof_call}
use Rattle.lent_records.proofs.write_sized.Goals as goal

pub returns : goal.returns
returns g c =
    write_proof_call c.args.form c.args.entries.now c.args.sizes.now c.args.nodes.now c.args.roots.now c.requires.0 c.requires.2
    c.loadable-entries_loaded.ensures c.load_entries.ensures c.loadable-nodes_loaded.ensures c.load_node_fields.ensures c.write_proof.ensures
