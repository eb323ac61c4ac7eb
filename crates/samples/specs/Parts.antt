-- files laid down from their parts
use Rattle.std.specs.Prelude.{List, [], ◌∷◌, ◌++◌, ℕ, length}

-- little-endian, each number below 256
abbrev two_bytes : List ℕ → List ℕ
two_bytes [] = []
two_bytes (n ∷ l) = n ∷ 0 ∷ two_bytes l

abbrev joined : List (List ℕ) → List ℕ
joined [] = []
joined (part ∷ l) = part ++ joined l

abbrev pub claim_opening : List ℕ
claim_opening = 0x43 ∷ 0x4C ∷ 0x4D ∷ 0x31 ∷ []

abbrev pub proof_opening : List ℕ
proof_opening = 0x50 ∷ 0x52 ∷ 0x46 ∷ 0x31 ∷ []

-- the forms for several goals
abbrev pub goals_opening : List ℕ
goals_opening = 0x43 ∷ 0x4C ∷ 0x4D ∷ 0x32 ∷ []

abbrev pub trees_opening : List ℕ
trees_opening = 0x50 ∷ 0x52 ∷ 0x46 ∷ 0x32 ∷ []

abbrev pub model_opening : List ℕ
model_opening = 0x4D ∷ 0x44 ∷ 0x4C ∷ 0x31 ∷ []

-- the entries false and true; an entry with A alone; one with A and B
abbrev pub falsity : List ℕ
falsity = 0 ∷ 0 ∷ []

abbrev pub truth : List ℕ
truth = 0 ∷ 1 ∷ []

abbrev pub entry_a : ℕ → ℕ → List ℕ
entry_a kind a = 1 ∷ kind ∷ a ∷ 0 ∷ []

abbrev pub entryAB : ℕ → ℕ → ℕ → List ℕ
entryAB kind a b = 3 ∷ kind ∷ a ∷ 0 ∷ b ∷ 0 ∷ []

abbrev pub claim_of : List (List ℕ) → List ℕ → List ℕ
claim_of entries members = claim_opening ++ (length entries ∷ 0 ∷ joined entries) ++ (length members ∷ 0 ∷ two_bytes members)

abbrev members_of : List (List ℕ) → List ℕ
members_of [] = []
members_of (members ∷ l) = (length members ∷ 0 ∷ two_bytes members) ++ members_of l

-- the goal count, and each goal's members
abbrev pub claim_of_goals : List (List ℕ) → List (List ℕ) → List ℕ
claim_of_goals entries goals = goals_opening ++ (length entries ∷ 0 ∷ joined entries) ++ (length goals ∷ 0 ∷ members_of goals)

abbrev pub sequent : List ℕ → List ℕ
sequent codes = length codes ∷ two_bytes codes

-- a node with a principal and one child, by its rule; rule 3, 10, 11; Ax1, Ax2. A code is 2 × entry + focus
abbrev pub step : ℕ → ℕ → ℕ → List ℕ → List ℕ
step rule principal child codes = 0x13 ∷ rule ∷ principal ∷ 0 ∷ child ∷ 0 ∷ sequent codes

abbrev pub and : ℕ → ℕ → ℕ → List ℕ → List ℕ
and principal first second codes = 0x17 ∷ 3 ∷ principal ∷ 0 ∷ first ∷ 0 ∷ second ∷ 0 ∷ sequent codes

abbrev pub discharge : ℕ → List ℕ → List ℕ
discharge child codes = 0x12 ∷ 10 ∷ child ∷ 0 ∷ sequent codes

abbrev pub back : ℕ → List ℕ → List ℕ
back link codes = 0x18 ∷ 11 ∷ link ∷ 0 ∷ sequent codes

abbrev pub axiom1 : List ℕ → List ℕ
axiom1 codes = 0x10 ∷ 0 ∷ sequent codes

abbrev pub axiom2 : List ℕ → List ℕ
axiom2 codes = 0x10 ∷ 1 ∷ sequent codes

abbrev pub proof_of : List (List ℕ) → List ℕ
proof_of nodes = proof_opening ++ (length nodes ∷ 0 ∷ joined nodes)

-- the roots after the node count
abbrev pub proof_of_trees : List ℕ → List (List ℕ) → List ℕ
proof_of_trees roots nodes = trees_opening ++ (length nodes ∷ 0 ∷ two_bytes roots) ++ joined nodes
