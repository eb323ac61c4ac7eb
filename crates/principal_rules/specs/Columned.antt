-- tables that have passed 20 to 35, in the program's columns
use Rattle.formula.specs.declared.NodeColumns.{NodeColumns}
use Rattle.sequents.specs.declared.numbered.NumberedTable.{NumberedTable}
use Rattle.principal_rules.specs.Judged.{Judged}

abbrev pub JudgedIn : NumberedTable → NodeColumns → Type 0
JudgedIn t p = Judged t.columns.kinds.now t.columns.a.now t.columns.b.now t.canon.now t.columns.count p.tree.rules.now p.tree.links.now p.starts.now p.codes.now p.tree.nodes
