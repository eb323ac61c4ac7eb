-- the entry table and the nodes that the program's columns hold
use Rattle.formula.specs.Table.{Table}
use Rattle.formula.specs.Plain.{table_of}
use Rattle.formula.specs.Nodes.{Proof}
use Rattle.formula.specs.PlainNodes.{proof_of}
use Rattle.formula.specs.declared.EntryColumns.{EntryColumns}
use Rattle.formula.specs.declared.NodeColumns.{NodeColumns}

abbrev pub entries : EntryColumns → Table
entries t = table_of t.kinds.now t.a.now t.b.now t.count

abbrev pub nodes : NodeColumns → Proof
nodes p = proof_of p.tree.rules.now p.tree.links.now p.starts.now p.codes.now p.tree.nodes
