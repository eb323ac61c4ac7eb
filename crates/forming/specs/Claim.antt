-- a well-formed claim in plain numbers: kinds, As and Bs in a list each, and its entries' shapes by their kinds
use Rattle.std.specs.Prelude.{◌≡◌, refl, ◌≢◌, List, ℕ, zero, suc, ◌+◌, ◌<◌, ◌≤◌, length, take}
use Rattle.std.proofs.Math.Path.{ap}
use Rattle.std.proofs.Common.{◌∙◌, sym, inl, inr, arith, length-take-le, get_or-take}
use Rattle.std.proofs.Math.Decide.{dec_lt, ℕ_discrete}
use Rattle.std.proofs.Math.ListN.{get_or}
use Rattle.verdict.specs.Lists.{values_from}
use Rattle.formula.specs.Table.{Table}
use Rattle.formula.specs.Plain.{plain_entry, table_of, table_of_length, table_of_entry}
use Rattle.formula.specs.Shape.{Shape, leaf, two, step, fix, name, Leaf, never, always, letter, negated, Two, or, and, Step, diamond, box, Fix, mu, nu, shape_of, shape}
use Rattle.conditions.specs.WellFormedLaws.{operand_below}
use Rattle.conditions.specs.Formed.{Formed}

values_from_same : {A : Type 0} (f g : ℕ → A) (k e : ℕ) → ((i : ℕ) → i < e + k → f i ≡ g i) → values_from f e k ≡ values_from g e k
unfolding values_from
values_from_same f g zero e h = refl
values_from_same f g (suc k) e h = rw (h e (omega arith), values_from_same f g k (suc e) (λ i m. h i (omega arith))) refl

-- every entry counts
abbrev pub table_from : List ℕ → List ℕ → List ℕ → Table
table_from ks xs ys = table_of ks xs ys (length ks)

pub record Claim (ks xs ys : List ℕ) : Type 0 where
  pub as_there : length xs ≡ length ks
  pub bs_there : length ys ≡ length ks
  pub few : length ks ≤ 256
  -- kinds 0 to 10
  pub known : (e : ℕ) → e < length ks → get_or ks e 0 ≤ 10
  -- none of 20 to 23 and 71 is earned
  pub formed : Formed (table_from ks xs ys)

pub claim_length : (ks xs ys : List ℕ) → length (table_from ks xs ys) ≡ length ks
claim_length ks xs ys = table_of_length ks xs ys (length ks)

module _ {ks xs ys : List ℕ} (C : Claim ks xs ys) (e : ℕ) (l : e < length ks) where
  by_kind : {v : Shape} → shape_of (plain_entry ks xs ys e) ≡ v → shape (table_from ks xs ys) e ≡ v
  unfolding shape
  by_kind q = ap shape_of (table_of_entry ks xs ys (length ks) e l) ∙ q

  pub false_at : get_or ks e 0 ≡ 0 → shape (table_from ks xs ys) e ≡ leaf never
  unfolding shape_of
  false_at q = by_kind (rw q refl)

  pub true_at : get_or ks e 0 ≡ 1 → shape (table_from ks xs ys) e ≡ leaf always
  unfolding shape_of
  true_at q = by_kind (rw q refl)

  pub letter_at : get_or ks e 0 ≡ 2 → shape (table_from ks xs ys) e ≡ leaf (letter (get_or xs e 0))
  unfolding shape_of
  letter_at q = by_kind (rw q refl)

  pub negated_at : get_or ks e 0 ≡ 3 → shape (table_from ks xs ys) e ≡ leaf (negated (get_or xs e 0))
  unfolding shape_of
  negated_at q = by_kind (rw q refl)

  pub or_at : get_or ks e 0 ≡ 4 → shape (table_from ks xs ys) e ≡ two or (get_or xs e 0) (get_or ys e 0)
  unfolding shape_of
  or_at q = by_kind (rw q refl)

  pub and_at : get_or ks e 0 ≡ 5 → shape (table_from ks xs ys) e ≡ two and (get_or xs e 0) (get_or ys e 0)
  unfolding shape_of
  and_at q = by_kind (rw q refl)

  pub diamond_at : get_or ks e 0 ≡ 6 → shape (table_from ks xs ys) e ≡ step (diamond (get_or ys e 0)) (get_or xs e 0)
  unfolding shape_of
  diamond_at q = by_kind (rw q refl)

  pub box_at : get_or ks e 0 ≡ 7 → shape (table_from ks xs ys) e ≡ step (box (get_or ys e 0)) (get_or xs e 0)
  unfolding shape_of
  box_at q = by_kind (rw q refl)

  pub mu_at : get_or ks e 0 ≡ 8 → shape (table_from ks xs ys) e ≡ fix mu (get_or xs e 0)
  unfolding shape_of
  mu_at q = by_kind (rw q refl)

  pub nu_at : get_or ks e 0 ≡ 9 → shape (table_from ks xs ys) e ≡ fix nu (get_or xs e 0)
  unfolding shape_of
  nu_at q = by_kind (rw q refl)

  pub name_at : 9 < get_or ks e 0 → shape (table_from ks xs ys) e ≡ name (get_or xs e 0)
  unfolding shape_of
  name_at h = let q : get_or ks e 0 ≡ 10 = omega (arith, C.known e l) in by_kind (rw q refl)

  -- by the groups of kinds
  pub leaf_at : get_or ks e 0 < 4 → (v : Leaf) × (shape (table_from ks xs ys) e ≡ leaf v)
  leaf_at h = go (ℕ_discrete (get_or ks e 0) 0) (ℕ_discrete (get_or ks e 0) 1) (ℕ_discrete (get_or ks e 0) 2)
    where
      go : Dec (get_or ks e 0 ≡ 0) → Dec (get_or ks e 0 ≡ 1) → Dec (get_or ks e 0 ≡ 2) → (v : Leaf) × (shape (table_from ks xs ys) e ≡ leaf v)
      go (yes q) y z = (never, false_at q)
      go (no x) (yes q) z = (always, true_at q)
      go (no x) (no y) (yes q) = (letter (get_or xs e 0), letter_at q)
      go (no x) (no y) (no z) = (negated (get_or xs e 0), negated_at (omega arith))

  pub two_at : 3 < get_or ks e 0 → get_or ks e 0 < 6 → (o : Two) × (shape (table_from ks xs ys) e ≡ two o (get_or xs e 0) (get_or ys e 0))
  two_at h k = go (ℕ_discrete (get_or ks e 0) 4)
    where
      go : Dec (get_or ks e 0 ≡ 4) → (o : Two) × (shape (table_from ks xs ys) e ≡ two o (get_or xs e 0) (get_or ys e 0))
      go (yes q) = (or, or_at q)
      go (no n) = (and, and_at (omega arith))

  pub step-at : 5 < get_or ks e 0 → get_or ks e 0 < 8 → (m : Step) × (shape (table_from ks xs ys) e ≡ step m (get_or xs e 0))
  step-at h k = go (ℕ_discrete (get_or ks e 0) 6)
    where
      go : Dec (get_or ks e 0 ≡ 6) → (m : Step) × (shape (table_from ks xs ys) e ≡ step m (get_or xs e 0))
      go (yes q) = (diamond (get_or ys e 0), diamond_at q)
      go (no n) = (box (get_or ys e 0), box_at (omega arith))

  pub fix_at : 7 < get_or ks e 0 → get_or ks e 0 < 10 → (σ : Fix) × (shape (table_from ks xs ys) e ≡ fix σ (get_or xs e 0))
  fix_at h k = go (ℕ_discrete (get_or ks e 0) 8)
    where
      go : Dec (get_or ks e 0 ≡ 8) → (σ : Fix) × (shape (table_from ks xs ys) e ≡ fix σ (get_or xs e 0))
      go (yes q) = (mu, mu_at q)
      go (no n) = (nu, nu_at (omega arith))

  -- where operands and letters lie
  pub a_below : 3 < get_or ks e 0 → get_or ks e 0 < 10 → get_or xs e 0 < e
  a_below h k = go (ℕ_discrete (get_or ks e 0) 4) (ℕ_discrete (get_or ks e 0) 5)
    where
      rest : get_or ks e 0 ≢ 4 → get_or ks e 0 ≢ 5 → Dec (get_or ks e 0 < 8) → get_or xs e 0 < e
      rest x y (yes m) = let (o, q) = step-at (omega (arith, x, y)) m in operand_below (table_from ks xs ys) C.formed.well e _ {v = step o (get_or xs e 0)} q refl
      rest x y (no m) = let (o, q) = fix_at (omega arith) k in operand_below (table_from ks xs ys) C.formed.well e _ {v = fix o (get_or xs e 0)} q refl

      go : Dec (get_or ks e 0 ≡ 4) → Dec (get_or ks e 0 ≡ 5) → get_or xs e 0 < e
      go (yes q) y = operand_below (table_from ks xs ys) C.formed.well e _ (or_at q) (inl refl)
      go (no x) (yes q) = operand_below (table_from ks xs ys) C.formed.well e _ (and_at q) (inl refl)
      go (no x) (no y) = rest x y (dec_lt (get_or ks e 0) 8)

  pub b_below : 3 < get_or ks e 0 → get_or ks e 0 < 6 → get_or ys e 0 < e
  b_below h k = let (o, q) = two_at h k in operand_below (table_from ks xs ys) C.formed.well e _ q (inr refl)

  -- operand, body or fixpoint: an entry
  pub a_entry : 3 < get_or ks e 0 → get_or xs e 0 < length ks
  a_entry h = go (dec_lt (get_or ks e 0) 10)
    where
      go : Dec (get_or ks e 0 < 10) → get_or xs e 0 < length ks
      go (yes k) = omega (arith, a_below h k)
      go (no k) = let m = (C.formed.well.names_above e _ (name_at (omega arith))).1 in omega (arith, m, claim_length ks xs ys)

  pub letter_small : 1 < get_or ks e 0 → get_or ks e 0 < 4 → get_or xs e 0 < 32
  letter_small h k = go (ℕ_discrete (get_or ks e 0) 2)
    where
      go : Dec (get_or ks e 0 ≡ 2) → get_or xs e 0 < 32
      go (yes q) = C.formed.letters e _ (inl (letter_at q))
      go (no n) = C.formed.letters e _ (inr (negated_at (omega arith)))

  pub action_small : 5 < get_or ks e 0 → get_or ks e 0 < 8 → get_or ys e 0 < 16
  action_small h k = go (ℕ_discrete (get_or ks e 0) 6)
    where
      go : Dec (get_or ks e 0 ≡ 6) → get_or ys e 0 < 16
      go (yes q) = C.formed.actions e _ _ (inl (diamond_at q))
      go (no n) = C.formed.actions e _ _ (inr (box_at (omega arith)))

-- the same of the first n entries of longer lists
pub record Given (ks xs ys : List ℕ) (n : ℕ) (ws : List ℕ) : Type 0 where
  pub kinds_there : n ≤ length ks
  pub as_there : n ≤ length xs
  pub bs_there : n ≤ length ys
  pub words_there : n ≤ length ws
  pub few : n ≤ 256
  pub known : (e : ℕ) → e < n → get_or ks e 0 ≤ 10
  pub formed : Formed (table_of ks xs ys n)

module _ {ks xs ys : List ℕ} {n : ℕ} {ws : List ℕ} (G : Given ks xs ys n ws) where
  entry_first : (e : ℕ) → e < n → plain_entry (take n ks) (take n xs) (take n ys) e ≡ plain_entry ks xs ys e
  entry_first e h = rw (get_or-take n ks e 0 h, get_or-take n xs e 0 h, get_or-take n ys e 0 h) refl

  pub first_entries : table_from (take n ks) (take n xs) (take n ys) ≡ table_of ks xs ys n
  unfolding table_of
  first_entries =
      ap (values_from (plain_entry (take n ks) (take n xs) (take n ys)) 0) (length-take-le n ks G.kinds_there)
      ∙ values_from_same _ _ n 0 (λ e h. entry_first e (omega arith))

  pub first_claim : Claim (take n ks) (take n xs) (take n ys)
  first_claim =
      let l = length-take-le n ks G.kinds_there in
      record {
        as_there = length-take-le n xs G.as_there ∙ sym l;
        bs_there = length-take-le n ys G.bs_there ∙ sym l;
        few = omega (arith, l, G.few);
        known = λ e h. let k : e < n = omega (arith, l) in rw (get_or-take n ks e 0 k) (G.known e k);
        formed = rw first_entries G.formed;
      }
