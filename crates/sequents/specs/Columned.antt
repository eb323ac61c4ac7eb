-- the table, and what the rules' tests go by, in the program's columns
use Rattle.std.specs.Prelude.{List, ℕ}
use Rattle.formula.specs.Table.{Table}
use Rattle.formula.specs.Columned.{entries}
use Rattle.formula.specs.PlainNodes.{codes_at_lem}
use Rattle.formula.specs.declared.NodeColumns.{NodeColumns}
use Rattle.sequents.specs.declared.numbered.NumberedTable.{NumberedTable}
use Rattle.sequents.specs.Placed.{Placed, Coded}

-- the entries of a numbered table
abbrev pub numbered : NumberedTable → Table
numbered t = entries t.columns

-- the code c is of a formula of the table
abbrev pub CodedIn : NumberedTable → ℕ → Type 0
CodedIn t c = Coded t.columns.kinds.now t.columns.a.now t.columns.b.now t.canon.now t.columns.count c

-- the codes of node v, and that they stand within their list
abbrev pub codes_in : NodeColumns → ℕ → List ℕ
codes_in p v = codes_at_lem p.starts.now p.codes.now v

abbrev pub PlacedIn : NodeColumns → ℕ → Type 0
PlacedIn p v = Placed p.starts.now p.codes.now v
