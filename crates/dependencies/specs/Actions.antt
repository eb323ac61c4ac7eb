-- the actions of a claim's boxes and diamonds as a map, bit n for action n
use Rattle.std.specs.Prelude.{◌≡◌, refl, List, true, false, ◌⊎◌, ℕ, ◌+◌, ◌*◌, ◌%◌, ◌^◌, ◌<◌, ◌≤◌, eqb, length, get_or}
use Rattle.std.proofs.Common.{sym, ap, ◌∙◌, subst, inl, inr, arith, lit<, shl_exact, eq-eqb, eqb-true}
use Rattle.std.proofs.lemmas.Bool.{false≢true}
use Rattle.std.proofs.Math.Decide.{dec_lt, ℕ_discrete}
use Rattle.std.specs.Int.Bits.{bit_or}
use Rattle.formula.specs.Shape.{Shape, shape}
use Rattle.formula.specs.TableLaws.{past_end}
use Rattle.meaning.specs.Truth.{or-true, true-or}
use Rattle.meaning.specs.SameModels.{Acts}
use Rattle.bits.specs.Bits.{bit, no_bit, or_bit, one_bit}
use Rattle.forming.specs.Claim.{table_from, Claim, claim_length, leaf_at, two_at, diamond_at, box_at, fix_at, name_at, action_small}

-- boxes and diamonds
abbrev pub Modal : ℕ → Type 0
Modal kind = (5 < kind) × (kind < 8)

-- their actions are 0 to 15
abbrev pub NearActions : List ℕ → List ℕ → Type 0
NearActions ks ys = (length ks ≤ 256) × (length ys ≡ length ks) × ((e : ℕ) → e < length ks → Modal (get_or ks e 0) → get_or ys e 0 < 16)

-- one entry's action
pub record ActionBit (kind b r : ℕ) : Type 0 where
  pub modal : Modal kind → (n : ℕ) → bit r n ≡ eqb n b
  pub other : (Modal kind → ⊥) → (n : ℕ) → bit r n ≡ false

pub no_action : {kind : ℕ} (b : ℕ) → (Modal kind → ⊥) → ActionBit kind b 0
no_action b z = record { modal = λ m. absurd (z m); other = λ _ n. no_bit n }

pub its_action : {kind : ℕ} (b : ℕ) → Modal kind → b < 16 → ActionBit kind b (1 * 2 ^ b % 2 ^ 16)
its_action b m h =
    record {
      modal = λ _ n. ap (λ (w : ℕ). bit w n) (shl_exact 1 b 16 (lit< tt) (omega arith)) ∙ one_bit b n;
      other = λ z. absurd (z m);
    }

-- those of the entries below p, and no other
pub record UsedActions (ks ys : List ℕ) (p used : ℕ) : Type 0 where
  pub there : (e : ℕ) → e < p → Modal (get_or ks e 0) → bit used (get_or ys e 0) ≡ true
  pub only : (a : ℕ) → bit used a ≡ true → (e : ℕ) × (e < p) × Modal (get_or ks e 0) × (get_or ys e 0 ≡ a)

pub used_none : (ks ys : List ℕ) → UsedActions ks ys 0 0
used_none ks ys = record { there = λ e h. absurd (omega arith); only = λ a h. absurd (false≢true (sym (no_bit a) ∙ h)) }

pub used_more : {ks ys : List ℕ} {p used r : ℕ} → UsedActions ks ys p used → ActionBit (get_or ks p 0) (get_or ys p 0) r → UsedActions ks ys (p + 1) (bit_or used r)
used_more {ks} {ys} {p} {used} {r} U B =
    record {
      there = λ e h m. or_bit used r (get_or ys e 0) ∙ true-or _ _ (old e h m (ℕ_discrete e p));
      only = λ a h. new a (or-true _ _ (sym (or_bit used r a) ∙ h)) (dec_lt 5 (get_or ks p 0)) (dec_lt (get_or ks p 0) 8);
    }
  where
    old : (e : ℕ) → e < p + 1 → Modal (get_or ks e 0) → Dec (e ≡ p) → (bit used (get_or ys e 0) ≡ true) ⊎ (bit r (get_or ys e 0) ≡ true)
    old e h m (yes q) =
        let here : Modal (get_or ks p 0) = subst (λ (i : ℕ). Modal (get_or ks i 0)) q m in
        inr (ap (λ (i : ℕ). bit r (get_or ys i 0)) q ∙ B.modal here (get_or ys p 0) ∙ eq-eqb (get_or ys p 0) (get_or ys p 0) refl)
    old e h m (no n) = inl (U.there e (omega arith) m)

    new : (a : ℕ) → (bit used a ≡ true) ⊎ (bit r a ≡ true) → Dec (5 < get_or ks p 0) → Dec (get_or ks p 0 < 8)
        → (e : ℕ) × (e < p + 1) × Modal (get_or ks e 0) × (get_or ys e 0 ≡ a)
    new a (inl h) x y = let (e, l, m, q) = U.only a h in (e, omega arith, m, q)
    new a (inr h) (yes x) (yes y) = (p, omega arith, (x, y), sym (eqb-true a (get_or ys p 0) (sym (B.modal (x, y) a) ∙ h)))
    new a (inr h) (no x) y = absurd (false≢true (sym (B.other (λ m. x m.0) a) ∙ h))
    new a (inr h) (yes x) (no y) = absurd (false≢true (sym (B.other (λ m. y m.1) a) ∙ h))

module _ {ks xs ys : List ℕ} (C : Claim ks xs ys) where
  pub near_actions : NearActions ks ys
  near_actions = (C.few, C.bs_there, λ e l m. action_small C e l m.0 m.1)

  acts_entry : (e a : ℕ) → Acts (shape (table_from ks xs ys) e) a → e < length ks
  acts_entry e a h = go (dec_lt e (length ks))
    where
      go : Dec (e < length ks) → e < length ks
      go (yes l) = l
      go (no l) = absurd (subst (λ (v : Shape). Acts v a) (past_end (table_from ks xs ys) e (omega (arith, claim_length ks xs ys))) h)

  acts_kind : (e a : ℕ) → e < length ks → Acts (shape (table_from ks xs ys) e) a → Modal (get_or ks e 0) × (get_or ys e 0 ≡ a)
  acts_kind e a l h = go (dec_lt (get_or ks e 0) 4) (dec_lt (get_or ks e 0) 6) (ℕ_discrete (get_or ks e 0) 6) (dec_lt (get_or ks e 0) 8) (dec_lt (get_or ks e 0) 10)
    where
      with_shape : {v : Shape} → shape (table_from ks xs ys) e ≡ v → Acts v a
      with_shape q = subst (λ (v : Shape). Acts v a) q h

      go : Dec (get_or ks e 0 < 4) → Dec (get_or ks e 0 < 6) → Dec (get_or ks e 0 ≡ 6) → Dec (get_or ks e 0 < 8) → Dec (get_or ks e 0 < 10) → Modal (get_or ks e 0) × (get_or ys e 0 ≡ a)
      go (yes x) y d z w = let (v, q) = leaf_at C e l x in absurd (with_shape q)
      go (no x) (yes y) d z w = let (v, q) = two_at C e l (omega arith) y in absurd (with_shape q)
      go (no x) (no y) (yes d) z w = ((omega arith, omega arith), with_shape (diamond_at C e l d))
      go (no x) (no y) (no d) (yes z) w = ((omega arith, omega arith), with_shape (box_at C e l (omega arith)))
      go (no x) (no y) (no d) (no z) (yes w) = let (v, q) = fix_at C e l (omega arith) w in absurd (with_shape q)
      go (no x) (no y) (no d) (no z) (no w) = absurd (with_shape (name_at C e l (omega arith)))

  -- every action of the claim is 0 to 15 and in the map
  pub used_acts : {used : ℕ} → UsedActions ks ys (length ks) used → (e a : ℕ) → Acts (shape (table_from ks xs ys) e) a → (a < 16) × (bit used a ≡ true)
  used_acts {used} U e a h =
      let l = acts_entry e a h in
      let (m, q) = acts_kind e a l h in
      (subst (λ (n : ℕ). n < 16) q (action_small C e l m.0 m.1), ap (bit used) (sym q) ∙ U.there e l m)
