-- which fields each kind and each rule has: the bit map that stands before it in a file
use Rattle.std.specs.Prelude.{◌≡◌, refl, [], ◌∷◌, Bool, true, false, ◌&&◌, ℕ, ◌+◌, ◌≤◌, eqb, leb}
use Rattle.std.proofs.Common.{arith, eqb-true}
use Rattle.bits.specs.IfSet.{if_set_lem}
use Rattle.verdict.specs.Lists.{values_from}
use Rattle.formula.specs.Kind
use Rattle.formula.specs.Rule

-- kinds 2 to 10 have A, 4 and 5 have B
abbrev pub has_a_lem : ℕ → Bool
has_a_lem k = leb Kind.LETTER k && leb k Kind.NAME

abbrev pub has_b : ℕ → Bool
has_b k = leb Kind.OR k && leb k Kind.AND

-- 6 and 7 are the modalities
abbrev pub is_modal_lem : ℕ → Bool
is_modal_lem k = leb Kind.DIAMOND k && leb k Kind.BOX

-- 8 and 9 are the fixpoints
abbrev pub is_fixpoint_lem : ℕ → Bool
is_fixpoint_lem k = leb Kind.MU k && leb k Kind.NU

-- rules 2 to 9 have a principal, 2 to 10 a first child, 3 a second child, 11 a back link
abbrev pub has_principal_lem : ℕ → Bool
has_principal_lem r = leb Rule.OR r && leb r Rule.U

abbrev pub has_first_lem : ℕ → Bool
has_first_lem r = leb Rule.OR r && leb r Rule.D

abbrev pub has_second_lem : ℕ → Bool
has_second_lem r = eqb r Rule.AND

abbrev pub has_back_lem : ℕ → Bool
has_back_lem r = eqb r Rule.BACK

-- bit 0: A, bit 1: B
abbrev pub map_of : ℕ → ℕ
map_of k = if_set_lem (has_a_lem k) 1 + if_set_lem (has_b k) 2

-- bit 0: principal, bit 1: first child, bit 2: second child, bit 3: back link
abbrev pub low_map_lem : ℕ → ℕ
low_map_lem r = if_set_lem (has_principal_lem r) 1 + if_set_lem (has_first_lem r) 2 + if_set_lem (has_second_lem r) 4 + if_set_lem (has_back_lem r) 8

-- the bytes of a rule's fields, two for each that stands
abbrev pub link_width_lem : ℕ → ℕ
link_width_lem r = if_set_lem (has_principal_lem r) 2 + if_set_lem (has_first_lem r) 2 + if_set_lem (has_second_lem r) 2 + if_set_lem (has_back_lem r) 2

-- a back link stands alone, so no rule has more than three fields
pub link_width_le : (r : ℕ) → link_width_lem r ≤ 6
link_width_le r = go (has_back_lem r) refl
  where
    at_most : (b : Bool) → if_set_lem b 2 ≤ 2
    at_most true = omega arith
    at_most false = omega arith

    go : (b : Bool) → has_back_lem r ≡ b → if_set_lem (has_principal_lem r) 2 + if_set_lem (has_first_lem r) 2 + if_set_lem (has_second_lem r) 2 + if_set_lem b 2 ≤ 6
    go true e = let i : r ≡ Rule.BACK = eqb-true r Rule.BACK e in rw i (omega arith)
    go false e = omega (arith, at_most (has_principal_lem r), at_most (has_first_lem r), at_most (has_second_lem r))

-- document 01's maps, by kind and by rule, as it numbers them
pub maps_by_kind : values_from map_of 0 11 ≡ 0 ∷ 0 ∷ 1 ∷ 1 ∷ 3 ∷ 3 ∷ 1 ∷ 1 ∷ 1 ∷ 1 ∷ 1 ∷ []
unfolding values_from
maps_by_kind = refl

pub maps_by_rule : values_from low_map_lem 0 12 ≡ 0 ∷ 0 ∷ 3 ∷ 7 ∷ 3 ∷ 3 ∷ 3 ∷ 3 ∷ 3 ∷ 3 ∷ 2 ∷ 8 ∷ []
unfolding values_from
maps_by_rule = refl
