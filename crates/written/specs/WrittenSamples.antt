-- which entries are the same formula: samples, each computed from the definition
use Rattle.std.specs.Prelude.{◌≡◌, refl, false, List, [], ◌∷◌, ℕ}
use Rattle.std.proofs.Common.{sym, ◌∙◌, true≢false}
use Rattle.std.proofs.Math.Bool.{decide, decide_iff}
use Rattle.std.proofs.Math.Decide.{ℕ_discrete}
use Rattle.formula.specs.Kind
use Rattle.formula.specs.Table.{Table, Entry}
use Rattle.formula.specs.Shape.{or, box, nu}
use Rattle.written.specs.Form.{Form, pair, modal, bind, bound, same_form}
use Rattle.written.specs.Written.{written, SameFormula}
use Rattle.written.specs.Canon.{canon, key}

-- an entry with field A, and with both
abbrev one : ℕ → ℕ → Entry
one k a = record { kind = k; a = a; b = 0 }

abbrev two : ℕ → ℕ → ℕ → Entry
two k a b = record { kind = k; a = a; b = b }

Other : Table → ℕ → ℕ → Type 0
Other t e f = SameFormula t e f → ⊥

differ : (F G : Form) → decide (same_form F G) ≡ false → F ≡ G → ⊥
differ F G d q = true≢false (sym ((decide_iff (same_form F G)).1 q) ∙ d)

-- the number of each entry's formula
numbers : Table → List ℕ → List ℕ
unfolding canon
numbers t [] = []
numbers t (e ∷ l) = canon t e ∷ numbers t l

-- 2: nu x. box x, and 5: nu y. box y; 6: box 2; 7: nu z. 6, and 8: mu z. 6
abbrev twins : Table
twins =
    one Kind.NAME 2 ∷ one Kind.BOX 0 ∷ one Kind.NU 1
    ∷ one Kind.NAME 5 ∷ one Kind.BOX 3 ∷ one Kind.NU 4
    ∷ one Kind.BOX 2 ∷ one Kind.NU 6 ∷ one Kind.MU 6 ∷ []

abbrev nu_box : Form
nu_box = bind nu (modal (box 0) (bound 0))

twin_formulas : (written twins 2 ≡ nu_box) × (written twins 6 ≡ modal (box 0) nu_box) × (written twins 7 ≡ bind nu (modal (box 0) nu_box))
unfolding written
twin_formulas = (refl, refl, refl)

-- the choice of bound names does not count
renamed : SameFormula twins 2 5
unfolding written
renamed = refl

-- a free name is its fixpoint written out: by itself, under a box, and against the other name under a box
name_replaced : SameFormula twins 0 2 × SameFormula twins 1 6 × SameFormula twins 4 6
unfolding written
name_replaced = (refl, refl, refl)

-- a fixpoint is not its unfolding
unfolded : Other twins 2 6
unfolding Other written decide ℕ_discrete
unfolded = differ _ _ refl

-- a fixpoint whose own name does not occur is not its body
own_name_unused : Other twins 7 6
unfolding Other written decide ℕ_discrete
own_name_unused = differ _ _ refl

-- a nu is not the mu of the same body
nu_and_mu : Other twins 7 8
unfolding Other written decide ℕ_discrete
nu_and_mu = differ _ _ refl

twin_numbers : numbers twins (0 ∷ 1 ∷ 2 ∷ 3 ∷ 4 ∷ 5 ∷ 6 ∷ 7 ∷ 8 ∷ []) ≡ 2 ∷ 1 ∷ 2 ∷ 2 ∷ 1 ∷ 2 ∷ 1 ∷ 7 ∷ 8 ∷ []
unfolding numbers canon ℕ_discrete
twin_numbers = refl

-- codes 10 and 11, entry 5 out of focus and in it, are compared as 4 and 5, entry 2 with the same focus
twin_keys : (key twins 10 ≡ 4) × (key twins 11 ≡ 5)
unfolding canon ℕ_discrete
twin_keys = (refl, refl)

-- 6: nu x. nu y. (box x or box y), and 13: nu x. nu y. (box y or box x); 5: the inner fixpoint of 6 by itself
abbrev nested : Table
nested =
    one Kind.NAME 6 ∷ one Kind.NAME 5 ∷ one Kind.BOX 0 ∷ one Kind.BOX 1 ∷ two Kind.OR 2 3 ∷ one Kind.NU 4 ∷ one Kind.NU 5
    ∷ one Kind.NAME 13 ∷ one Kind.NAME 12 ∷ one Kind.BOX 7 ∷ one Kind.BOX 8 ∷ two Kind.OR 10 9 ∷ one Kind.NU 11 ∷ one Kind.NU 12 ∷ []

abbrev outer_first : Form
outer_first = bind nu (bind nu (pair or (modal (box 0) (bound 1)) (modal (box 0) (bound 0))))

nested_formulas : (written nested 6 ≡ outer_first) × (written nested 5 ≡ bind nu (pair or (modal (box 0) outer_first) (modal (box 0) (bound 0))))
unfolding written
nested_formulas = (refl, refl)

-- which of two fixpoints a name is of counts
names_exchanged : Other nested 6 13
unfolding Other written decide ℕ_discrete
names_exchanged = differ _ _ refl

-- 2: nu x. mu y. 0, and 4: mu y. nu x. 0, where 0 is a letter
abbrev crossed : Table
crossed = one Kind.LETTER 0 ∷ one Kind.MU 0 ∷ one Kind.NU 1 ∷ one Kind.NU 0 ∷ one Kind.MU 3 ∷ []

-- so does which of two fixpoints stands outside, though these mean the same
nested_other_way : Other crossed 2 4
unfolding Other written decide ℕ_discrete
nested_other_way = differ _ _ refl
