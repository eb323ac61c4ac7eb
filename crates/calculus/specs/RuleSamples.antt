-- what T-03 asks of a principal and T-04 of the diamonds beside a box: where soundness does not ask it, a definition, its test and its law could
-- be changed together without these samples, each computed from the judge (crate samples has more, as files)
use Rattle.std.specs.Prelude.{◌≡◌, refl, List, [], ◌∷◌, ℕ}
use Rattle.std.proofs.Math.Decide.{ℕ_discrete}
use Rattle.verdict.specs.Verdict.{accepted, refused}
use Rattle.formula.specs.Kind
use Rattle.formula.specs.Rule
use Rattle.formula.specs.Table.{Entry}
use Rattle.formula.specs.Claim.{clm1, Claim, Derivation}
use Rattle.calculus.specs.Judge.{judge}

abbrev one : ℕ → ℕ → Entry
one k a = record { kind = k; a = a; b = 0 }

-- a box or diamond of action n
abbrev by : ℕ → ℕ → ℕ → Entry
by n k a = record { kind = k; a = a; b = n }

-- true, and true again; true, and false
abbrev two_true : Claim
two_true = record { form = clm1; entries = one Kind.TRUE 0 ∷ one Kind.TRUE 0 ∷ []; goals = (0 ∷ 1 ∷ []) ∷ [] }

abbrev true_and_false : Claim
true_and_false = record { form = clm1; entries = one Kind.TRUE 0 ∷ one Kind.FALSE 0 ∷ []; goals = (0 ∷ 1 ∷ []) ∷ [] }

-- true, and 3: nu x. box x, whose name is 1
abbrev true_and_nu : Claim
true_and_nu = record { form = clm1; entries = one Kind.TRUE 0 ∷ one Kind.NAME 3 ∷ one Kind.BOX 1 ∷ one Kind.NU 2 ∷ []; goals = (0 ∷ 3 ∷ []) ∷ [] }

-- W of a principal, then Ax2
abbrev dropped : ℕ → List ℕ → Derivation
dropped x l = record {
  roots = 0 ∷ [];
  nodes =
      record { rule = Rule.W; principal = x; first = 1; second = 0; back = 0; codes = l }
      ∷ record { rule = Rule.AX2; principal = 0; first = 0; second = 0; back = 0; codes = 1 ∷ [] } ∷ [];
}

-- W takes a formula away under every number that it has
twin_left : judge two_true (dropped 3 (1 ∷ 3 ∷ [])) ≡ refused 37 0
unfolding judge ℕ_discrete
twin_left = refl

-- "A principal that is a name or out of range still gets 37": the name has the formula of the nu, a number out of range that of false
name_dropped : judge true_and_nu (dropped 3 (1 ∷ 7 ∷ [])) ≡ refused 37 0
unfolding judge ℕ_discrete
name_dropped = refl

out_of_range_dropped : judge true_and_false (dropped 201 (1 ∷ 3 ∷ [])) ≡ refused 37 0
unfolding judge ℕ_discrete
out_of_range_dropped = refl

-- by its own number, and for false by that of false, W is kept
number_dropped : (judge true_and_nu (dropped 7 (1 ∷ 7 ∷ [])) ≡ accepted) × (judge true_and_false (dropped 3 (1 ∷ 3 ∷ [])) ≡ accepted)
unfolding judge ℕ_discrete
number_dropped = (refl, refl)

-- 2: a box of action m on a letter, and 3: a diamond of action n on its negation
abbrev box_and_diamond : ℕ → ℕ → Claim
box_and_diamond m n = record { form = clm1; entries = one Kind.LETTER 0 ∷ one Kind.NEGATED 0 ∷ by m Kind.BOX 0 ∷ by n Kind.DIAMOND 1 ∷ []; goals = (2 ∷ 3 ∷ []) ∷ [] }

-- 1: a box of action m on true, and 2: one of action n
abbrev two_boxes : ℕ → ℕ → Claim
two_boxes m n = record { form = clm1; entries = one Kind.TRUE 0 ∷ by m Kind.BOX 0 ∷ by n Kind.BOX 0 ∷ []; goals = (1 ∷ 2 ∷ []) ∷ [] }

-- the box step of a principal, then an axiom
abbrev box_step : ℕ → List ℕ → ℕ → List ℕ → Derivation
box_step x l r k = record {
  roots = 0 ∷ [];
  nodes =
      record { rule = Rule.BOX; principal = x; first = 1; second = 0; back = 0; codes = l }
      ∷ record { rule = r; principal = 0; first = 0; second = 0; back = 0; codes = k } ∷ [];
}

abbrev to_clash : Derivation
to_clash = box_step 5 (5 ∷ 7 ∷ []) Rule.AX1 (1 ∷ 3 ∷ [])

abbrev to_truth : Derivation
to_truth = box_step 3 (3 ∷ 5 ∷ []) Rule.AX2 (1 ∷ [])

-- "The box rule needs diamonds of the principal's own action"
own_action : (judge (box_and_diamond 3 3) to_clash ≡ accepted) × (judge (box_and_diamond 0 0) to_clash ≡ accepted)
unfolding judge ℕ_discrete
own_action = (refl, refl)

other_action : (judge (box_and_diamond 1 2) to_clash ≡ refused 37 0) × (judge (box_and_diamond 0 5) to_clash ≡ refused 37 0)
unfolding judge ℕ_discrete
other_action = (refl, refl)

-- two boxes on one formula are one formula where their actions are one
twin_by_action : (judge (two_boxes 4 4) to_truth ≡ accepted) × (judge (two_boxes 1 2) to_truth ≡ refused 37 0)
unfolding judge ℕ_discrete
twin_by_action = (refl, refl)
