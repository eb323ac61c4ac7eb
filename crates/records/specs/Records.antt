-- the records that stand in lent slices: what each shows, the records that columns of plain numbers make, and the columns that records make
use Rattle.std.specs.Prelude.{◌≡◌, List, [], ◌∷◌, map, ℕ, ◌+◌, ◌*◌, ◌-◌, ◌<◌, ◌≤◌, length, get_or, set, take}
use Rattle.verdict.specs.Lists.{values_from, written}
use Rattle.formula.specs.Table as tables
use Rattle.formula.specs.Table.{Table}
use Rattle.formula.specs.Columns.{kind_column, a_column, b_column}
use Rattle.formula.specs.Records.{NodeRecord}
use Rattle.records.specs.declared.Entry.{Entry}
use Rattle.records.specs.declared.Node.{Node}

-- what is read past the end of a slice, in no call
abbrev pub blank_entry : Entry
blank_entry = record { kind = 0; a = 0; b = 0 }

abbrev pub blank_node : Node
blank_node = record { rule = 0; principal = 0; first = 0; second = 0; back = 0; count = 0 }

-- an entry's record is its kind, A and B
abbrev pub shown_entry : Entry → tables.Entry
shown_entry e = record { kind = e.kind; a = e.a; b = e.b }

-- a record is the rule, the four two-byte fields and the code count
abbrev pub shown_node : Node → NodeRecord
shown_node v = record { rule = v.rule; principal = v.principal; first = v.first; second = v.second; back = v.back; count = v.count }

abbrev pub shown_entries : List Entry → Table
shown_entries es = map shown_entry es

abbrev pub shown_nodes : List Node → List NodeRecord
shown_nodes vs = map shown_node vs

-- what the first n records show
abbrev pub first_entries : List Entry → ℕ → Table
first_entries es n = shown_entries (take n es)

abbrev pub first_nodes : List Node → ℕ → List NodeRecord
first_nodes vs n = shown_nodes (take n vs)

-- the columns have room for n entries; for n nodes, four links each and a start more, or a count each
abbrev pub EntryRoom : List ℕ → List ℕ → List ℕ → ℕ → Type 0
EntryRoom ks xs ys n = (n ≤ length ks) × (n ≤ length xs) × (n ≤ length ys)

abbrev pub NodeRoom : List ℕ → List ℕ → List ℕ → ℕ → Type 0
NodeRoom rs ls ss n = (n ≤ length rs) × (4 * n ≤ length ls) × (n < length ss)

abbrev pub FieldRoom : List ℕ → List ℕ → List ℕ → ℕ → Type 0
FieldRoom rs ls ns n = (n ≤ length rs) × (4 * n ≤ length ls) × (n ≤ length ns)

-- the record of entry i of the columns
abbrev pub entry_of_lem : List ℕ → List ℕ → List ℕ → ℕ → Entry
entry_of_lem ks xs ys i = record { kind = get_or ks i 0; a = get_or xs i 0; b = get_or ys i 0 }

abbrev pub entries_of : List ℕ → List ℕ → List ℕ → ℕ → List Entry
entries_of ks xs ys n = values_from (entry_of_lem ks xs ys) 0 n

-- the record of node v of the columns: its links stand at 4 × v, its codes from its start up to the next node's
abbrev pub node_of_lem : List ℕ → List ℕ → List ℕ → ℕ → Node
node_of_lem rs ls ss v = record {
  rule = get_or rs v 0;
  principal = get_or ls (4 * v) 0;
  first = get_or ls (4 * v + 1) 0;
  second = get_or ls (4 * v + 2) 0;
  back = get_or ls (4 * v + 3) 0;
  count = get_or ss (v + 1) 0 - get_or ss v 0;
}

abbrev pub nodes_of : List ℕ → List ℕ → List ℕ → ℕ → List Node
nodes_of rs ls ss n = values_from (node_of_lem rs ls ss) 0 n

-- a node has at most 24 codes
abbrev pub CountFits : List ℕ → ℕ → Type 0
CountFits ss v = (get_or ss v 0 ≤ get_or ss (v + 1) 0) × (get_or ss (v + 1) 0 ≤ get_or ss v 0 + 24)

abbrev pub CountsFit : List ℕ → ℕ → Type 0
CountsFit ss n = (v : ℕ) → v < n → CountFits ss v

-- the columns that node records make: a rule, four links, where the codes start, the end of the last one's too, and how many codes
unfoldable pub rule_column : List NodeRecord → List ℕ
rule_column [] = []
rule_column (v ∷ p) = v.rule ∷ rule_column p

unfoldable pub link_column : List NodeRecord → List ℕ
link_column [] = []
link_column (v ∷ p) = v.principal ∷ v.first ∷ v.second ∷ v.back ∷ link_column p

unfoldable pub start_column : ℕ → List NodeRecord → List ℕ
start_column s [] = s ∷ []
start_column s (v ∷ p) = s ∷ start_column (s + v.count) p

abbrev pub count_column : List NodeRecord → List ℕ
count_column p = map (λ (v : NodeRecord). v.count) p

-- how many codes the records have
unfoldable pub total : List NodeRecord → ℕ
total [] = 0
total (v ∷ p) = v.count + total p

-- one record's fields, stored in the columns
pub record RowSet (ks xs ys : List ℕ) (i : ℕ) (e : Entry) (ks' xs' ys' : List ℕ) : Type 0 where
  pub kinds : ks' ≡ set ks i e.kind
  pub a : xs' ≡ set xs i e.a
  pub b : ys' ≡ set ys i e.b

abbrev pub links_set : List ℕ → ℕ → Node → List ℕ
links_set ls v node = set (set (set (set ls (4 * v) node.principal) (4 * v + 1) node.first) (4 * v + 2) node.second) (4 * v + 3) node.back

pub record NodeRowSet (rs ls ss : List ℕ) (v : ℕ) (node : Node) (rs' ls' ss' : List ℕ) : Type 0 where
  pub rules : rs' ≡ set rs v node.rule
  pub links : ls' ≡ links_set ls v node
  pub starts : ss' ≡ set ss (v + 1) (get_or ss v 0 + node.count)

pub record FieldsSet (rs ls ns : List ℕ) (v : ℕ) (node : Node) (rs' ls' ns' : List ℕ) : Type 0 where
  pub rules : rs' ≡ set rs v node.rule
  pub links : ls' ≡ links_set ls v node
  pub counts : ns' ≡ set ns v node.count

-- the columns hold what stands in the first n records, and are unchanged beyond it
pub record EntriesLoaded (es : List Entry) (n : ℕ) (ks xs ys ks' xs' ys' : List ℕ) : Type 0 where
  pub kinds : ks' ≡ written (kind_column (first_entries es n)) ks
  pub a : xs' ≡ written (a_column (first_entries es n)) xs
  pub b : ys' ≡ written (b_column (first_entries es n)) ys

pub record NodesLoaded (vs : List Node) (n : ℕ) (rs ls ss rs' ls' ss' : List ℕ) : Type 0 where
  pub rules : rs' ≡ written (rule_column (first_nodes vs n)) rs
  pub links : ls' ≡ written (link_column (first_nodes vs n)) ls
  pub starts : ss' ≡ written (start_column 0 (first_nodes vs n)) ss

-- whatever the records say
pub record FieldsLoaded (vs : List Node) (n : ℕ) (rs ls ns rs' ls' ns' : List ℕ) : Type 0 where
  pub rules : rs' ≡ written (rule_column (first_nodes vs n)) rs
  pub links : ls' ≡ written (link_column (first_nodes vs n)) ls
  pub counts : ns' ≡ written (count_column (first_nodes vs n)) ns
