-- the joined proof: the new root, the first tree and the second, renumbered in that order
use Rattle.std.specs.Prelude.{List, [], ◌∷◌, ◌++◌, ℕ, ◌+◌, length}
use Rattle.verdict.specs.Tests.{each}
use Rattle.formula.specs.Rule
use Rattle.formula.specs.Table.{Table}
use Rattle.formula.specs.Codes.{code}
use Rattle.formula.specs.Nodes.{Node, Proof}
use Rattle.formula.specs.Claim.{clm1, Claim, Derivation}
use Rattle.claim_files.specs.ClaimFile.{encode_claim}
use Rattle.proof_files.specs.ProofFile.{encode_proof}
use Rattle.writing.specs.Spelling.{spelled_claim}
use Rattle.joining.specs.Shift.{shifted}
use Rattle.joining.specs.Goals.{joined_goal}

-- a claim for one goal, and a proof whose only root is node 0
abbrev pub one_goal : Table → List ℕ → Claim
one_goal t ms = record { form = clm1; entries = t; goals = ms ∷ [] }

abbrev pub one_tree : Proof → Derivation
one_tree p = record { roots = 0 ∷ []; nodes = p }

-- their files
abbrev pub claim_bytes : Table → List ℕ → List ℕ
claim_bytes t ms = encode_claim (spelled_claim clm1 t (ms ∷ []))

abbrev pub proof_bytes : Proof → List ℕ
proof_bytes p = encode_proof clm1 (one_tree p)

-- entries as codes, all in focus
abbrev pub in_focus : List ℕ → List ℕ
in_focus ms = each (λ e. code e 1) ms

-- rule 3 of entry e; n is the number of nodes of the first tree
abbrev pub joined_root : ℕ → List ℕ → ℕ → Node
joined_root e ms n = record { rule = Rule.AND; principal = code e 1; first = 1; second = n + 1; back = 0; codes = in_focus ms }

abbrev pub joined_nodes : ℕ → List ℕ → Proof → Proof → Proof
joined_nodes e ms p r = joined_root e ms (length p) ∷ (shifted 1 p ++ shifted (length p + 1) r)

-- of two proofs, with the goals of their claims
abbrev pub joined_proof : Table → ℕ → List ℕ → List ℕ → Proof → Proof → Proof
joined_proof t e l r p q = joined_nodes e (joined_goal t e l r) p q
