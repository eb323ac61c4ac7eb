-- T-05: several goals, one tree for each; where soundness does not ask it, a definition, its test and its law could be changed together without
-- these samples, each computed from the judge (crate samples has more, as files)
use Rattle.std.specs.Prelude.{◌≡◌, refl, List, [], ◌∷◌, ℕ}
use Rattle.std.proofs.Math.Decide.{ℕ_discrete}
use Rattle.verdict.specs.Verdict.{accepted, refused}
use Rattle.formula.specs.Kind
use Rattle.formula.specs.Rule
use Rattle.formula.specs.Table.{Table}
use Rattle.formula.specs.Nodes.{Proof, Node}
use Rattle.formula.specs.Claim.{clm2, Claim, Derivation}
use Rattle.calculus.specs.Judge.{judge}

-- 2: nu x. box x, whose name is 0 and whose box is 1
abbrev table : Table
table = record { kind = Kind.NAME; a = 2; b = 0 } ∷ record { kind = Kind.BOX; a = 0; b = 0 } ∷ record { kind = Kind.NU; a = 1; b = 0 } ∷ []

abbrev claim : List (List ℕ) → Claim
claim goals = record { form = clm2; entries = table; goals = goals }

abbrev one : ℕ → ℕ → ℕ → ℕ → ℕ → Node
one r p f b c = record { rule = r; principal = p; first = f; second = 0; back = b; codes = c ∷ [] }

-- two trees of four nodes, each a loop through a box; the second leaf's link is given
abbrev two : ℕ → Proof
two link =
    one Rule.D 0 1 0 5 ∷ one Rule.NU 5 2 0 5 ∷ one Rule.BOX 3 3 0 3 ∷ one Rule.BACK 0 0 0 5
    ∷ one Rule.D 0 5 0 5 ∷ one Rule.NU 5 6 0 5 ∷ one Rule.BOX 3 7 0 3 ∷ one Rule.BACK 0 0 link 5 ∷ []

-- the same two, their nodes by turns
abbrev turns : Proof
turns =
    one Rule.D 0 2 0 5 ∷ one Rule.D 0 3 0 5 ∷ one Rule.NU 5 4 0 5 ∷ one Rule.NU 5 5 0 5
    ∷ one Rule.BOX 3 6 0 3 ∷ one Rule.BOX 3 7 0 3 ∷ one Rule.BACK 0 0 0 5 ∷ one Rule.BACK 0 0 1 5 ∷ []

abbrev by : List ℕ → Proof → Derivation
by roots nodes = record { roots = roots; nodes = nodes }

abbrev twice : List (List ℕ)
twice = (2 ∷ []) ∷ (2 ∷ []) ∷ []

own_trees : (judge (claim twice) (by (0 ∷ 4 ∷ []) (two 4)) ≡ accepted) × (judge (claim twice) (by (0 ∷ 1 ∷ []) turns) ≡ accepted)
unfolding judge ℕ_discrete
own_trees = (refl, refl)

-- a leaf of the second tree linked into the first: node 0 is no ancestor of it
other_tree : judge (claim twice) (by (0 ∷ 4 ∷ []) (two 0)) ≡ refused 38 7
unfolding judge ℕ_discrete
other_tree = refl

-- a node that is no root is a child, and a root is none
orphan : judge (claim ((2 ∷ []) ∷ [])) (by (0 ∷ []) (two 4)) ≡ refused 35 4
unfolding judge ℕ_discrete
orphan = refl

root_as_child : judge (claim twice) (by (0 ∷ 3 ∷ []) (two 4)) ≡ refused 35 2
unfolding judge ℕ_discrete
root_as_child = refl

-- 36 at the root of the goal that is not there, and at the first such root
wrong_goal : (judge (claim ((2 ∷ []) ∷ (1 ∷ []) ∷ [])) (by (0 ∷ 4 ∷ []) (two 4)) ≡ refused 36 4)
    × (judge (claim ((1 ∷ []) ∷ (1 ∷ []) ∷ [])) (by (0 ∷ 4 ∷ []) (two 4)) ≡ refused 36 0)
unfolding judge ℕ_discrete
wrong_goal = (refl, refl)
