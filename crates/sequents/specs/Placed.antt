-- what the test of a node's rule looks at, in plain numbers, and what it goes by: 20 to 35 have passed
use Rattle.std.specs.Prelude.{◌≡◌, ◌≢◌, ℕ, ◌+◌, ◌<◌, ◌≤◌, List, [], ◌∷◌, true, length, get_or}
use Rattle.verdict.specs.Sets.{elements}
use Rattle.verdict.specs.Tests.{same, remove, each}
use Rattle.formula.specs.Kind
use Rattle.formula.specs.Rule
use Rattle.formula.specs.Table.{Table, kind}
use Rattle.formula.specs.Plain.{table_of}
use Rattle.conditions.specs.WellFormed.{WellFormed}
use Rattle.formula.specs.Codes.{Formula, entry_of_lem}
use Rattle.formula.specs.Nodes.{Node, node}
use Rattle.sequents.specs.Part.{part, Span}
use Rattle.sequents.specs.CodeSet.{Holds}
use Rattle.sequents.specs.Keys.{Numbers}
use Rattle.written.specs.Canon.{key}
use Rattle.calculus.specs.View.{View}
use Rattle.calculus.specs.Judge.{belongs}

-- a node without links
abbrev bare : List ℕ → Node
bare l = record { rule = Rule.AX1; principal = 0; first = 0; second = 0; back = 0; codes = l }

-- all that a rule with a principal p looks at: the codes l of a node, and those of its first and second child
abbrev pub family : ℕ → List ℕ → List ℕ → List ℕ → View
family p l m k = record {
  size = 3;
  node = node (record { rule = Rule.AX1; principal = p; first = 1; second = 2; back = 0; codes = l } ∷ bare m ∷ bare k ∷ []);
  owner = λ w v. 0;
  same = same;
}

-- the words w hold the members that the codes l stand for
abbrev pub HoldsKeys : Table → List ℕ → List ℕ → Type 0
HoldsKeys t w l = Holds w (each (key t) l)

-- the principal p is an entry, no name, and its formula with its focus is listed
abbrev pub Belonging : Table → ℕ → List ℕ → Type 0
Belonging t p l = belongs t (family p l [] []) 0 ≡ true

-- and the words w hold the side: all other members (document 01's term)
pub record Side (t : Table) (w : List ℕ) (p : ℕ) (l : List ℕ) : Type 0 where
  pub belongs : Belonging t p l
  pub holds : Holds w (remove (key t p) (each (key t) l))

-- what a promise says where the words w hold the side of a principal p and u, v the sequents of its children, whatever their codes
abbrev pub OneChild : Table → List ℕ → ℕ → List ℕ → (Table → View → Type 0) → Type 0
OneChild t w p u P = (l m : List ℕ) → Side t w p l → HoldsKeys t u m → P t (family p l m [])

abbrev pub TwoChildren : Table → List ℕ → ℕ → List ℕ → List ℕ → (Table → View → Type 0) → Type 0
TwoChildren t w p u v P = (l m k : List ℕ) → Side t w p l → HoldsKeys t u m → HoldsKeys t v k → P t (family p l m k)

-- the same of a principal p that belongs to the codes l
abbrev pub ChildOf : Table → ℕ → List ℕ → List ℕ → (Table → View → Type 0) → Type 0
ChildOf t p l u P = (m : List ℕ) → Belonging t p l → HoldsKeys t u m → P t (family p l m [])

-- the codes of node v stand within their list, and fit a set
pub record Placed (ss cs : List ℕ) (v : ℕ) : Type 0 where
  pub room : v + 1 < length ss
  pub span : Span cs (get_or ss v 0) (get_or ss (v + 1) 0)

-- a goal's members, from a place up to another: entries of a table of n
pub record Members (n : ℕ) (ms : List ℕ) (i j : ℕ) : Type 0 where
  pub order : i ≤ j
  pub few : j ≤ 384
  pub long : j ≤ length ms
  pub inside : (e : ℕ) → elements (part ms i j) e → e < n

-- each code is of an entry of a table of n
abbrev pub Entries : ℕ → List ℕ → Type 0
Entries n l = (c : ℕ) → elements l c → entry_of_lem c < n

-- an operand, and its fixpoint if it is a name, are entries of a table of 256
pub record Within (ks xs : List ℕ) (o : ℕ) : Type 0 where
  pub small : o < 256
  pub named : get_or ks o 0 ≡ Kind.NAME → get_or xs o 0 < 256

-- each code is of a formula of the table
abbrev pub Formulas : Table → List ℕ → Type 0
Formulas t l = (c : ℕ) → elements l c → Formula t (entry_of_lem c)

-- the code c is of a formula of a table that has passed 20 to 23, whose formulas are numbered
pub record Coded (ks xs ys ns : List ℕ) (n c : ℕ) : Type 0 where
  pub well : WellFormed (table_of ks xs ys n)
  pub numbers : Numbers (table_of ks xs ys n) ns
  pub small : n ≤ 256
  pub inside : entry_of_lem c < n
  pub no_name : kind (table_of ks xs ys n) (entry_of_lem c) ≢ Kind.NAME
