-- the files of document 01's samples
use Rattle.std.specs.Prelude.{List, [], ◌∷◌, ◌++◌, ℕ}

-- a fixpoint of box: the name of entry 2, its box, and the fixpoint of kind k; member 2
unfoldable pub of_box : ℕ → List ℕ
of_box k = 0x43 ∷ 0x4C ∷ 0x4D ∷ 0x31 ∷ 3 ∷ 0 ∷ 1 ∷ 10 ∷ 2 ∷ 0 ∷ 1 ∷ 7 ∷ 0 ∷ 0 ∷ 1 ∷ k ∷ 1 ∷ 0 ∷ 1 ∷ 0 ∷ 2 ∷ 0 ∷ []

unfoldable pub nu_box : List ℕ
unfolding of_box
nu_box = of_box 9

unfoldable pub mu_box : List ℕ
unfolding of_box
mu_box = of_box 8

-- PRF1 and a node count
unfoldable pub nodes : ℕ → List ℕ
nodes n = 0x50 ∷ 0x52 ∷ 0x46 ∷ 0x31 ∷ n ∷ 0 ∷ []

-- D, nu, box and a back leaf to the D: every sequent in focus
unfoldable pub loop_of_nu : List ℕ
unfolding nodes
loop_of_nu =
    nodes 4
    ++ (0x12 ∷ 0x0A ∷ 1 ∷ 0 ∷ 1 ∷ 5 ∷ 0 ∷ [])
    ++ (0x13 ∷ 0x06 ∷ 5 ∷ 0 ∷ 2 ∷ 0 ∷ 1 ∷ 5 ∷ 0 ∷ [])
    ++ (0x13 ∷ 0x04 ∷ 3 ∷ 0 ∷ 3 ∷ 0 ∷ 1 ∷ 3 ∷ 0 ∷ [])
    ++ (0x18 ∷ 0x0B ∷ 0 ∷ 0 ∷ 1 ∷ 5 ∷ 0 ∷ [])

-- the same as mu: its unfolding is out of focus, and so is the leaf
unfoldable pub loop_of_mu : List ℕ
unfolding nodes
loop_of_mu =
    nodes 4
    ++ (0x12 ∷ 0x0A ∷ 1 ∷ 0 ∷ 1 ∷ 5 ∷ 0 ∷ [])
    ++ (0x13 ∷ 0x05 ∷ 5 ∷ 0 ∷ 2 ∷ 0 ∷ 1 ∷ 5 ∷ 0 ∷ [])
    ++ (0x13 ∷ 0x04 ∷ 2 ∷ 0 ∷ 3 ∷ 0 ∷ 1 ∷ 2 ∷ 0 ∷ [])
    ++ (0x18 ∷ 0x0B ∷ 0 ∷ 0 ∷ 1 ∷ 4 ∷ 0 ∷ [])

-- the same with F before the leaf, which then has the companion's sequent
unfoldable pub loop_of_mu_with_f : List ℕ
unfolding nodes
loop_of_mu_with_f =
    nodes 5
    ++ (0x12 ∷ 0x0A ∷ 1 ∷ 0 ∷ 1 ∷ 5 ∷ 0 ∷ [])
    ++ (0x13 ∷ 0x05 ∷ 5 ∷ 0 ∷ 2 ∷ 0 ∷ 1 ∷ 5 ∷ 0 ∷ [])
    ++ (0x13 ∷ 0x04 ∷ 2 ∷ 0 ∷ 3 ∷ 0 ∷ 1 ∷ 2 ∷ 0 ∷ [])
    ++ (0x13 ∷ 0x08 ∷ 4 ∷ 0 ∷ 4 ∷ 0 ∷ 1 ∷ 4 ∷ 0 ∷ [])
    ++ (0x18 ∷ 0x0B ∷ 0 ∷ 0 ∷ 1 ∷ 5 ∷ 0 ∷ [])

-- mu unfolded with its focus kept, all else as in the loop of nu
unfoldable pub loop_of_focused_mu : List ℕ
unfolding nodes
loop_of_focused_mu =
    nodes 4
    ++ (0x12 ∷ 0x0A ∷ 1 ∷ 0 ∷ 1 ∷ 5 ∷ 0 ∷ [])
    ++ (0x13 ∷ 0x05 ∷ 5 ∷ 0 ∷ 2 ∷ 0 ∷ 1 ∷ 5 ∷ 0 ∷ [])
    ++ (0x13 ∷ 0x04 ∷ 3 ∷ 0 ∷ 3 ∷ 0 ∷ 1 ∷ 3 ∷ 0 ∷ [])
    ++ (0x18 ∷ 0x0B ∷ 0 ∷ 0 ∷ 1 ∷ 5 ∷ 0 ∷ [])

-- D then a back leaf
unfoldable pub empty_loop : List ℕ
unfolding nodes
empty_loop = nodes 2 ++ (0x12 ∷ 0x0A ∷ 1 ∷ 0 ∷ 1 ∷ 5 ∷ 0 ∷ []) ++ (0x18 ∷ 0x0B ∷ 0 ∷ 0 ∷ 1 ∷ 5 ∷ 0 ∷ [])

-- letter 0, its negation, and their or
unfoldable pub or_of_letters : List ℕ
or_of_letters = 0x43 ∷ 0x4C ∷ 0x4D ∷ 0x31 ∷ 3 ∷ 0 ∷ 1 ∷ 2 ∷ 0 ∷ 0 ∷ 1 ∷ 3 ∷ 0 ∷ 0 ∷ 3 ∷ 4 ∷ 0 ∷ 0 ∷ 1 ∷ 0 ∷ 1 ∷ 0 ∷ 2 ∷ 0 ∷ []

-- rule 2 then Ax1
unfoldable pub or_then_ax1 : List ℕ
unfolding nodes
or_then_ax1 = nodes 2 ++ (0x13 ∷ 0x02 ∷ 5 ∷ 0 ∷ 1 ∷ 0 ∷ 1 ∷ 5 ∷ 0 ∷ []) ++ (0x10 ∷ 0x00 ∷ 2 ∷ 1 ∷ 0 ∷ 3 ∷ 0 ∷ [])

-- the name of entry 1 and its mu
unfoldable pub mu_of_own_name : List ℕ
mu_of_own_name = 0x43 ∷ 0x4C ∷ 0x4D ∷ 0x31 ∷ 2 ∷ 0 ∷ 1 ∷ 10 ∷ 1 ∷ 0 ∷ 1 ∷ 8 ∷ 0 ∷ 0 ∷ 1 ∷ 0 ∷ 1 ∷ 0 ∷ []

-- nu of box, and above it a diamond over its name
unfoldable pub diamond_above : List ℕ
diamond_above =
    0x43 ∷ 0x4C ∷ 0x4D ∷ 0x31 ∷ 4 ∷ 0 ∷ 1 ∷ 10 ∷ 2 ∷ 0 ∷ 1 ∷ 7 ∷ 0 ∷ 0 ∷ 1 ∷ 9 ∷ 1 ∷ 0 ∷ 1 ∷ 6 ∷ 0 ∷ 0 ∷ 1 ∷ 0 ∷ 2 ∷ 0 ∷ []

-- one state without letters: no successor; itself as successor
unfoldable pub no_successor : List ℕ
no_successor = 0x4D ∷ 0x44 ∷ 0x4C ∷ 0x31 ∷ 1 ∷ 0 ∷ []

unfoldable pub own_successor : List ℕ
own_successor = 0x4D ∷ 0x44 ∷ 0x4C ∷ 0x31 ∷ 1 ∷ 2 ∷ 1 ∷ 0 ∷ []

-- true, its box, and the box of that; members 1 and 2
unfoldable pub box_of_box : List ℕ
box_of_box = 0x43 ∷ 0x4C ∷ 0x4D ∷ 0x31 ∷ 3 ∷ 0 ∷ 0 ∷ 1 ∷ 1 ∷ 7 ∷ 0 ∷ 0 ∷ 1 ∷ 7 ∷ 1 ∷ 0 ∷ 2 ∷ 0 ∷ 1 ∷ 0 ∷ 2 ∷ 0 ∷ []

-- box with another box beside it and both targets below, W of the box among them, then Ax2
unfoldable pub box_beside_box : List ℕ
unfolding nodes
box_beside_box =
    nodes 3
    ++ (0x13 ∷ 0x04 ∷ 3 ∷ 0 ∷ 1 ∷ 0 ∷ 2 ∷ 3 ∷ 0 ∷ 5 ∷ 0 ∷ [])
    ++ (0x13 ∷ 0x07 ∷ 3 ∷ 0 ∷ 2 ∷ 0 ∷ 2 ∷ 1 ∷ 0 ∷ 3 ∷ 0 ∷ [])
    ++ (0x10 ∷ 0x01 ∷ 1 ∷ 1 ∷ 0 ∷ [])
