-- joins, computed: document 01's proof of nu of box, joined with itself and with a twin's
use Rattle.std.specs.Prelude.{◌≡◌, refl, [], ◌∷◌, ◌++◌, ℕ, replicate}
use Rattle.std.proofs.Math.Decide.{ℕ_discrete}
use Rattle.verdict.specs.Verdict.{Verdict, accepted, refused}
use Rattle.formula.specs.Table.{Table, Entry}
use Rattle.formula.specs.Nodes.{Proof, node}
use Rattle.calculus.specs.Judge.{judge}
use Rattle.joining.specs.Goals.{joined_goal}
use Rattle.joining.specs.Joined.{one_goal, one_tree, joined_proof}
use Rattle.joining.specs.Answer.{joining}

abbrev entry3 : ℕ → ℕ → ℕ → Entry
entry3 k a b = record { kind = k; a = a; b = b }

-- 0 name of 2, 1 box 0, 2 nu 1; 3 name of 5, 4 box 3, 5 nu 4; 6 and 2 5, 7 and 1 1, 8 or 2 2, 9 and 0 0
abbrev twins : Table
twins =
    entry3 10 2 0 ∷ entry3 7 0 0 ∷ entry3 9 1 0 ∷ entry3 10 5 0 ∷ entry3 7 3 0 ∷ entry3 9 4 0
    ∷ entry3 5 2 5 ∷ entry3 5 1 1 ∷ entry3 4 2 2 ∷ entry3 5 0 0 ∷ []

-- D, nu, box, back leaf
abbrev circle : ℕ → ℕ → Proof
circle nu box =
    record { rule = 10; principal = 0; first = 1; second = 0; back = 0; codes = nu ∷ [] }
    ∷ record { rule = 6; principal = nu; first = 2; second = 0; back = 0; codes = nu ∷ [] }
    ∷ record { rule = 4; principal = box; first = 3; second = 0; back = 0; codes = box ∷ [] }
    ∷ record { rule = 11; principal = 0; first = 0; second = 0; back = 0; codes = nu ∷ [] }
    ∷ []

-- the twins are one formula, so the rest is the first goal: 2, and the claim 2, 6
goal : joined_goal twins 6 (2 ∷ []) (5 ∷ []) ≡ 2 ∷ 6 ∷ []
unfolding joined_goal ℕ_discrete
goal = refl

whole : judge (one_goal twins (2 ∷ 6 ∷ [])) (one_tree (joined_proof twins 6 (2 ∷ []) (5 ∷ []) (circle 5 3) (circle 11 9))) ≡ accepted
unfolding judge joined_goal ℕ_discrete
whole = refl

-- what the join of the two answers at an entry, with so much room
abbrev at : ℕ → ℕ → ℕ → Verdict
at e a b = joining twins twins (2 ∷ []) (5 ∷ []) (circle 5 3) (circle 11 9) e a b

-- 60 and 83 bytes; the operands of 9 are names of the fixpoint
answers : at 6 60 83 ∷ at 9 60 83 ∷ at 6 59 83 ∷ at 6 60 82 ∷ [] ≡ accepted ∷ accepted ∷ refused 70 0 ∷ refused 70 0 ∷ []
unfolding joining ℕ_discrete
answers = refl

-- no "A and B", operands that do not fit, past the table
misfits : at 8 60 83 ∷ at 7 60 83 ∷ at 10 60 83 ∷ [] ≡ refused 73 8 ∷ refused 73 7 ∷ refused 73 10 ∷ []
unfolding joining ℕ_discrete
misfits = refl

-- the entry itself in the rest; a table that is longer
others : joining twins twins (2 ∷ 6 ∷ []) (5 ∷ 6 ∷ []) (circle 5 3) (circle 11 9) 6 99 99
    ∷ joining twins (twins ++ (entry3 0 0 0 ∷ [])) (2 ∷ []) (5 ∷ []) (circle 5 3) (circle 11 9) 6 99 99
    ∷ [] ≡ refused 73 6 ∷ refused 73 6 ∷ []
unfolding joining ℕ_discrete
others = refl

-- 1,024 nodes are no more than may be, 1,025 are: 74 at 0, before the slices, and after an entry that does not fit
abbrev many : ℕ → ℕ → Verdict
many n e = joining twins twins (2 ∷ []) (5 ∷ []) (replicate n (node [] 0)) (circle 11 9) e 60 0

nodes : many 1020 6 ∷ many 1019 6 ∷ many 1020 8 ∷ [] ≡ refused 74 0 ∷ refused 70 0 ∷ refused 73 8 ∷ []
unfolding joining ℕ_discrete
nodes = refl
