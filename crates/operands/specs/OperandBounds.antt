-- refusals 20 and 71 in plain numbers: by an entry's kind and fields, and for a name by the kind of the entry that it names
use Rattle.std.specs.Prelude.{◌≡◌, ◌⊎◌, ◌≢◌, List, Bool, true, not, ◌||◌, ℕ, ◌<◌, ◌≤◌, get_or}
use Rattle.std.proofs.Math.Path.{refl, ap}
use Rattle.std.proofs.Common.{sym, ◌∙◌, inl, inr, true≢false, le-leb, ne_eqb}
use Rattle.std.proofs.Math.Bool.{false}
use native.Mathlib.Omega.{arith}
use Rattle.std.proofs.Math.Decide.{dec_lt, ℕ_discrete}
use Rattle.std.proofs.Math.Dec.{leb}
use Rattle.verdict.specs.Verdict.{Verdict, accepted, refused}
use Rattle.verdict.specs.Tests.{choose}
use Rattle.formula.specs.Kind
use Rattle.formula.specs.Table.{Table}
use Rattle.formula.specs.Shape.{Shape, leaf, two, step, fix, name, shape_of, shape}
use Rattle.formula.specs.Plain.{table_of, table_of_length, table_of_entry}
use Rattle.formula.specs.Fields.{is_fixpoint_lem}
use Rattle.conditions.specs.Judge.{is_fix, bad_leaf, bad, far_step, far}
use Rattle.conditions.specs.KindShapes.{plain_shape, is_name, fix_test, name_test, letter_kind, two_kind, step_kind, fix_kind, name_kind, bare_kind, leaf_kind}

-- entry e earns 20
abbrev pub out_of : Table → ℕ → Bool
out_of t e = bad t e (shape t e)

-- a letter, operand or body out of bounds
unfoldable pub operands_out_lem : ℕ → Shape → Bool
unfolding bad_leaf
operands_out_lem e (leaf l) = bad_leaf l
operands_out_lem e (two o a b) = leb e a || leb e b
operands_out_lem e (step m a) = leb e a
operands_out_lem e (fix σ a) = leb e a
operands_out_lem e (name x) = false

-- a name's fixpoint not above it, outside the table or none
abbrev pub name_out_lem : List ℕ → ℕ → ℕ → ℕ → Bool
name_out_lem ks n e x = leb x e || (leb n x || not (is_fixpoint_lem (get_or ks x 0)))

-- 20 or 71, the first that entry e earns, or 0
unfoldable pub number_at_lem : Table → ℕ → ℕ
unfolding bad far shape
number_at_lem t e = choose (out_of t e) 20 (choose (far (shape t e)) 71 0)

-- the first of n entries that earns a number, and which; 0 and n where none does
pub record FirstFault (t : Table) (n k e : ℕ) : Type 0 where
  pub within : e ≤ n
  pub before : (w : ℕ) → w < e → number_at_lem t w ≡ 0
  pub found : e < n → number_at_lem t e ≡ k
  pub told : k ≢ 0 → e < n
  pub none : k ≡ 0 → e ≡ n

-- as a verdict: accepted where none does
abbrev pub FirstRefused : Table → ℕ → Verdict → Type 0
FirstRefused t n accepted = FirstFault t n 0 n
FirstRefused t n (refused k e) = FirstFault t n k e × (k ≢ 0)

-- an entry that earns neither
pub number-none : (t : Table) (e : ℕ) → number_at_lem t e ≡ 0 → (out_of t e ≡ false) × (far (shape t e) ≡ false)
unfolding number_at_lem
number-none t e h = go (out_of t e) (far (shape t e)) h
  where
    go : (a b : Bool) → choose a 20 (choose b 71 0) ≡ 0 → (a ≡ false) × (b ≡ false)
    go true b h = absurd (omega arith)
    go false true h = absurd (omega arith)
    go false false h = (refl, refl)

-- an action by the number of the kind
module _ (k a b : ℕ) where
  pub far_step_lem : Kind.DIAMOND ≤ k → k ≤ Kind.BOX → far (plain_shape k a b) ≡ leb 16 b
  unfolding far far_step shape_of
  far_step_lem l m = go (ℕ_discrete k Kind.DIAMOND)
    where
      go : Dec (k ≡ Kind.DIAMOND) → far (plain_shape k a b) ≡ leb 16 b
      go (yes q) = rw q refl
      go (no q) = let r : k ≡ Kind.BOX = omega arith in rw r refl

  pub far_other : (k < Kind.DIAMOND) ⊎ (Kind.BOX < k) → far (plain_shape k a b) ≡ false
  unfolding far
  far_other (inl h) = go (dec_lt k Kind.OR)
    where
      go : Dec (k < Kind.OR) → far (plain_shape k a b) ≡ false
      go (yes l) = let (v, q) = leaf_kind k a b (inl l) in rw q refl
      go (no l) = let (o, q) = two_kind k a b (omega arith) (omega arith) in rw q refl
  far_other (inr h) = go (dec_lt k Kind.NAME) (ℕ_discrete k Kind.NAME)
    where
      go : Dec (k < Kind.NAME) → Dec (k ≡ Kind.NAME) → far (plain_shape k a b) ≡ false
      go (yes l) z = let (σ, q) = fix_kind k a b (omega arith) (omega arith) in rw q refl
      go (no l) (yes q) = rw (name_kind k a b q) refl
      go (no l) (no q) = let (v, q) = leaf_kind k a b (inr (omega arith)) in rw q refl

-- operands_out_lem by the number of the kind
module _ (k a b e : ℕ) where
  pub out_letter : Kind.LETTER ≤ k → k ≤ Kind.NEGATED → operands_out_lem e (plain_shape k a b) ≡ leb 32 a
  unfolding operands_out_lem
  out_letter l m = let (v, q, z) = letter_kind k a b l m in rw q z

  pub out_two : Kind.OR ≤ k → k ≤ Kind.AND → operands_out_lem e (plain_shape k a b) ≡ (leb e a || leb e b)
  unfolding operands_out_lem
  out_two l m = let (o, q) = two_kind k a b l m in rw q refl

  pub out_one : Kind.DIAMOND ≤ k → k ≤ Kind.NU → operands_out_lem e (plain_shape k a b) ≡ leb e a
  unfolding operands_out_lem
  out_one l m = go (dec_lt k Kind.MU)
    where
      go : Dec (k < Kind.MU) → operands_out_lem e (plain_shape k a b) ≡ leb e a
      go (yes h) = let (o, q) = step_kind k a b l (omega arith) in rw q refl
      go (no h) = let (o, q) = fix_kind k a b (omega arith) m in rw q refl

  pub out_none : (k < Kind.LETTER) ⊎ (Kind.NAME ≤ k) → operands_out_lem e (plain_shape k a b) ≡ false
  unfolding operands_out_lem
  out_none (inl h) = let (v, q, z) = bare_kind k a b (inl h) in rw q z
  out_none (inr h) = go (ℕ_discrete k Kind.NAME)
    where
      go : Dec (k ≡ Kind.NAME) → operands_out_lem e (plain_shape k a b) ≡ false
      go (yes n) = rw (name_kind k a b n) refl
      go (no n) = let (v, q, z) = bare_kind k a b (inr (omega arith)) in rw q z

other_bad : (t : Table) (e : ℕ) (v : Shape) → is_name v ≡ false → bad t e v ≡ operands_out_lem e v
unfolding bad operands_out_lem
other_bad t e (leaf l) n = refl
other_bad t e (two o a b) n = refl
other_bad t e (step m a) n = refl
other_bad t e (fix σ a) n = refl
other_bad t e (name x) n = absurd (true≢false n)

pub plain_shape_lem : (ks xs ys : List ℕ) (n e : ℕ) → e < n → shape (table_of ks xs ys n) e ≡ plain_shape (get_or ks e 0) (get_or xs e 0) (get_or ys e 0)
unfolding shape
plain_shape_lem ks xs ys n e h = ap shape_of (table_of_entry ks xs ys n e h)

module _ (ks xs ys : List ℕ) (n e : ℕ) (inside : e < n) where
  -- a name, by the kind of what it names
  pub out_name : get_or ks e 0 ≡ Kind.NAME → out_of (table_of ks xs ys n) e ≡ name_out_lem ks n e (get_or xs e 0)
  unfolding bad
  out_name q =
      ap (bad t e) (plain_shape_lem ks xs ys n e inside ∙ name_kind (get_or ks e 0) (get_or xs e 0) (get_or ys e 0) q)
      ∙ ap (λ b. leb x e || b) (rw (table_of_length ks xs ys n) (go (dec_lt x n)))
    where
      t : Table
      t = table_of ks xs ys n

      x : ℕ
      x = get_or xs e 0

      go : Dec (x < n) → (leb n x || not (is_fix (shape t x))) ≡ (leb n x || not (is_fixpoint_lem (get_or ks x 0)))
      go (yes h) = rw (plain_shape_lem ks xs ys n x h, fix_test (get_or xs x 0) (get_or ys x 0) (get_or ks x 0)) refl
      go (no h) = rw (le-leb n x (omega arith)) refl

  -- any other kind, by its fields
  pub out_other : (get_or ks e 0 ≡ Kind.NAME → ⊥) → out_of (table_of ks xs ys n) e ≡ operands_out_lem e (plain_shape (get_or ks e 0) (get_or xs e 0) (get_or ys e 0))
  out_other q =
      ap (bad (table_of ks xs ys n) e) (plain_shape_lem ks xs ys n e inside)
      ∙ other_bad (table_of ks xs ys n) e _ (name_test (get_or xs e 0) (get_or ys e 0) (get_or ks e 0) ∙ ne_eqb (get_or ks e 0) Kind.NAME q)

  -- as the code has them, the fields in numbers of their own
  module _ {r : Bool} {x : ℕ} (first : x ≡ get_or xs e 0) where
    pub name_answer : get_or ks e 0 ≡ Kind.NAME → r ≡ name_out_lem ks n e x → r ≡ out_of (table_of ks xs ys n) e
    name_answer q z = z ∙ ap (name_out_lem ks n e) first ∙ sym (out_name q)

    pub other_answer : {y : ℕ} → y ≡ get_or ys e 0 → (get_or ks e 0 ≡ Kind.NAME → ⊥) → r ≡ operands_out_lem e (plain_shape (get_or ks e 0) x y) → r ≡ out_of (table_of ks xs ys n) e
    other_answer second q z = z ∙ rw (first, second) (sym (out_other q))

-- the answers of the code: out of bounds; else an action above 15, by the fields; else neither
pub number_out : (t : Table) (e : ℕ) → out_of t e ≡ true → 20 ≡ number_at_lem t e
unfolding number_at_lem
number_out t e h = rw h refl

module _ (ks xs ys : List ℕ) (n e : ℕ) (inside : e < n) (within : out_of (table_of ks xs ys n) e ≡ false) where
  far_here : {r : Bool} → far (plain_shape (get_or ks e 0) (get_or xs e 0) (get_or ys e 0)) ≡ r → far (shape (table_of ks xs ys n) e) ≡ r
  far_here h = ap far (plain_shape_lem ks xs ys n e inside) ∙ h

  pub number_far : far (plain_shape (get_or ks e 0) (get_or xs e 0) (get_or ys e 0)) ≡ true → 71 ≡ number_at_lem (table_of ks xs ys n) e
  unfolding number_at_lem
  number_far h = rw (within, far_here h) refl

  pub number_zero : far (plain_shape (get_or ks e 0) (get_or xs e 0) (get_or ys e 0)) ≡ false → 0 ≡ number_at_lem (table_of ks xs ys n) e
  unfolding number_at_lem
  number_zero h = rw (within, far_here h) refl
