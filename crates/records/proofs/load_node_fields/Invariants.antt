-- So many records are loaded, and the columns are unchanged beyond them.
use Rattle.records.specs.Records.{FieldsLoaded}
use Rattle.records.proofs.load_node_fields.Given as goal

abbrev pub invariant-loop-i : goal.invariant-loop-i
invariant-loop-i l = FieldsLoaded l.nodes l.i l.initial.rules l.initial.links l.initial.counts l.rules l.links l.counts
