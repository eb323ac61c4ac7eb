-- what a claim file and a proof file hold, each as one record: what comes to a claim or a proof becomes a field of it
use Rattle.std.specs.Prelude.{List, ℕ}
use Rattle.formula.specs.Table.{Table}
use Rattle.formula.specs.Spelled.{Spelled, records_of, marked_of}
use Rattle.formula.specs.Nodes.{Proof}

-- the form for one goal, and the form for several
pub data Form : Type 0 where
  clm1 : Form
  clm2 : Form

-- as the calls name them
abbrev pub form_number : Form → ℕ
form_number clm1 = 1
form_number clm2 = 2

-- the least entry count and node count: the form for several goals may have none of either (T-06)
abbrev pub fewest : Form → ℕ
fewest clm1 = 1
fewest clm2 = 0

-- an entry table, and the goals: the members of each, of which at least one is to be true everywhere
pub record Claim : Type 0 where
  pub form : Form
  pub entries : Table
  pub goals : List (List ℕ)

-- a claim as its file spells it
pub record SpelledClaim : Type 0 where
  pub form : Form
  pub spelling : List Spelled
  pub goals : List (List ℕ)

-- the claim of its entries' records
abbrev pub claim_of : SpelledClaim → Claim
claim_of c = record { form = c.form; entries = records_of c.spelling; goals = c.goals }

-- as the code holds it
abbrev pub marked_claim : SpelledClaim → Claim
marked_claim c = record { form = c.form; entries = marked_of c.spelling; goals = c.goals }

-- the root of each goal's tree, and the numbered nodes
pub record Derivation : Type 0 where
  pub roots : List ℕ
  pub nodes : Proof
