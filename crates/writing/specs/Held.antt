-- records as they are held in columns of plain numbers, where the slice they were lent in is long enough and no more than the most count
use Rattle.std.specs.Prelude.{◌≡◌, List, ℕ, ◌+◌, ◌*◌, ◌<◌, ◌≤◌, length, get_or, take}
use Rattle.verdict.specs.Lists.{values_from}
use Rattle.formula.specs.Table.{Table}
use Rattle.formula.specs.Plain.{table_of}
use Rattle.formula.specs.Records.{NodeRecord}
use Rattle.writing.specs.Promises.{WriteClaim, WriteProof}

-- the links of node v stand at 4 × v: principal, first child, second child, back link
abbrev pub plain_record : List ℕ → List ℕ → List ℕ → ℕ → NodeRecord
plain_record rs ls ns v = record {
  rule = get_or rs v 0;
  principal = get_or ls (4 * v) 0;
  first = get_or ls (4 * v + 1) 0;
  second = get_or ls (4 * v + 2) 0;
  back = get_or ls (4 * v + 3) 0;
  count = get_or ns v 0;
}

abbrev pub records_of : List ℕ → List ℕ → List ℕ → ℕ → List NodeRecord
records_of rs ls ns m = values_from (plain_record rs ls ns) 0 m

abbrev pub EntriesHeld : Table → ℕ → List ℕ → List ℕ → List ℕ → Type 0
EntriesHeld es n ks xs ys = 256 ≤ length es → n ≤ 256 → take n es ≡ table_of ks xs ys n

abbrev pub NodesHeld : List NodeRecord → ℕ → List ℕ → List ℕ → List ℕ → Type 0
NodesHeld vs m rs ls ns = 1024 ≤ length vs → m ≤ 1024 → take m vs ≡ records_of rs ls ns m

-- columns with room for m nodes
pub record ColumnsFor (m : ℕ) (rs ls ns : List ℕ) : Type 0 where
  pub rules : m ≤ length rs
  pub links : 4 * m ≤ length ls
  pub counts : m ≤ length ns

-- and codes enough for them
pub record NodesGiven (rs ls ns cs : List ℕ) (m : ℕ) : Type 0 where
  pub most : m ≤ 1024
  pub rules : m ≤ length rs
  pub links : 4 * m ≤ length ls
  pub counts : m ≤ length ns
  pub codes : 24 * m ≤ length cs

-- how many of the given records are loaded from a lent slice: all, or none where it is too short or too many are given
pub record Loadable (lent most given r : ℕ) : Type 0 where
  pub fits : r ≤ lent
  pub few : r ≤ most
  pub all : most ≤ lent → given ≤ most → r ≡ given
  pub short : lent < most → r ≡ 0
  pub many : most < given → r ≡ 0

-- whatever entries were lent, if the columns hold the given ones
abbrev pub ClaimWritten : ℕ → ℕ → ℕ → List ℕ → List ℕ → List ℕ → List ℕ → List ℕ → List ℕ → ℕ → List ℕ → Type 0
ClaimWritten form lent n ks xs ys gs ms out r out' =
    (es : Table) → length es ≡ lent → EntriesHeld es n ks xs ys
    → WriteClaim (record { form = form; entries = es; count = n; counts = gs; members = ms }) out r out'

-- whatever entries and nodes were lent
abbrev pub ProofWritten : ℕ → ℕ → ℕ → List ℕ → List ℕ → List ℕ → List ℕ → List ℕ → ℕ → ℕ → List ℕ → List ℕ → List ℕ → List ℕ → List ℕ → List ℕ → ℕ → List ℕ → Type 0
ProofWritten form lent n ks xs ys gs ms lent_nodes m rs ls ns os cs out r out' =
    (es : Table) (vs : List NodeRecord) → length es ≡ lent → length vs ≡ lent_nodes → EntriesHeld es n ks xs ys → NodesHeld vs m rs ls ns
    → WriteProof (record { form = form; entries = es; count = n; counts = gs; members = ms }) (record { nodes = vs; count = m; roots = os; codes = cs }) out r out'
