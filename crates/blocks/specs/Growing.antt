-- an entry joins the block, and its operands are met
use Rattle.std.specs.Prelude.{◌≡◌, refl, List, true, false, ◌⊎◌, ℕ, ◌<◌, eqb, length, get_or}
use Rattle.std.proofs.Common.{sym, ap, ◌∙◌, inl, inr, ⊎_elim, arith, eqb-true}
use Rattle.std.proofs.Math.Path.{subst⁻¹}
use Rattle.meaning.specs.Truth.{or-true}
use Rattle.formula.specs.Shape.{shape, Operand}
use Rattle.forming.specs.FormedLaws.{operand_reads}
use Rattle.entry_sets.specs.Counting.{Within}
use Rattle.blocks.specs.Gathering.{Grown}
use Rattle.bits.specs.WordSet.{in_set}
use Rattle.entry_sets.specs.Sets.{Inserted, inserted_old, inserted_new}
use Rattle.forming.specs.Claim.{table_from, Claim}
use Rattle.dependencies.specs.Operands.{reads_kind, operand_name, a_operand, b_operand}

-- c is met, if it is neither settled nor in the block
pub record Meets (ds bs ms : List ℕ) (c : ℕ) (ns : List ℕ) : Type 0 where
  pub long : length ns ≡ length ms
  pub old : Within (in_set ms) (in_set ns)
  pub from : (d : ℕ) → in_set ns d ≡ true → (in_set ms d ≡ true) ⊎ ((d ≡ c) × (in_set bs d ≡ false))
  pub new : (in_set bs c ≡ true) ⊎ (in_set ns c ≡ true) ⊎ (in_set ds c ≡ true)

module _ (ds bs ms : List ℕ) (c : ℕ) where
  pub meets_settled : in_set ds c ≡ true → Meets ds bs ms c ms
  meets_settled h = record { long = refl; old = λ d i. i; from = λ d i. inl i; new = inr (inr h) }

  pub meets_in : in_set bs c ≡ true → Meets ds bs ms c ms
  meets_in h = record { long = refl; old = λ d i. i; from = λ d i. inl i; new = inl h }

  pub meets_new : (ns : List ℕ) → in_set bs c ≡ false → Inserted ms c ns → Meets ds bs ms c ns
  meets_new ns h I =
      record {
        long = I.long;
        old = inserted_old I;
        from = λ d i. ⊎_elim (λ k. inl k) (λ k. let q = eqb-true d c k in inr (q, ap (in_set bs) q ∙ h)) (or-true (in_set ms d) (eqb d c) (sym (I.tells d) ∙ i));
        new = inr (inl (inserted_new I));
      }

module _ {ks xs ys : List ℕ} (C : Claim ks xs ys) (e : ℕ) (l : e < length ks) (ds bs ms cs : List ℕ) (I : Inserted bs e cs) where
  abbrev Result : List ℕ → Type 0
  Result ns = (length cs ≡ length bs) × (length ns ≡ length ms) × Grown (table_from ks xs ys) (in_set ds) (in_set bs) (in_set ms) e (in_set cs) (in_set ns)

  block_from : (d : ℕ) → in_set cs d ≡ true → (in_set bs d ≡ true) ⊎ (d ≡ e)
  block_from d i = ⊎_elim (λ k. inl k) (λ k. inr (eqb-true d e k)) (or-true (in_set bs d) (eqb d e) (sym (I.tells d) ∙ i))

  pub grown_name : 9 < get_or ks e 0 → Result ms
  grown_name h = (
    I.long,
    refl,
    record {
      joined = inserted_new I;
      block_old = inserted_old I;
      block_from = block_from;
      met_old = λ d i. i;
      met_from = λ d i. inl i;
      met_new = λ d o. absurd (omega (arith, operand_name C e l d o));
    },
  )

  module _ (a : ℕ) (p : a ≡ get_or xs e 0) (h : 3 < get_or ks e 0) (k : get_or ks e 0 < 10) (ns : List ℕ) (A : Meets ds cs ms a ns) where
    operand_a : (d : ℕ) → d ≡ a → Operand (shape (table_from ks xs ys) e) d
    operand_a d q = subst⁻¹ (Operand (shape (table_from ks xs ys) e)) (q ∙ p) (a_operand C e l h k)

    new_a : (d : ℕ) → d ≡ get_or xs e 0 → (in_set cs d ≡ true) ⊎ (in_set ns d ≡ true) ⊎ (in_set ds d ≡ true)
    new_a d q = subst⁻¹ (λ (z : ℕ). (in_set cs z ≡ true) ⊎ (in_set ns z ≡ true) ⊎ (in_set ds z ≡ true)) (q ∙ sym p) A.new

    pub grown_one : 5 < get_or ks e 0 → Result ns
    grown_one m = (
      I.long,
      A.long,
      record {
        joined = inserted_new I;
        block_old = inserted_old I;
        block_from = block_from;
        met_old = A.old;
        met_from = λ d i. ⊎_elim (λ r. inl r) (λ r. inr (operand_a d r.0, r.1)) (A.from d i);
        met_new = λ d o. ⊎_elim (λ q. new_a d q) (λ q. absurd (omega (arith, q.0))) (reads_kind C e l d (operand_reads (shape (table_from ks xs ys) e) d o)).1;
      },
    )

    pub grown_two : get_or ks e 0 < 6 → (b : ℕ) → b ≡ get_or ys e 0 → (os : List ℕ) → Meets ds cs ns b os → Result os
    grown_two m b q os B = (
      I.long,
      B.long ∙ A.long,
      record {
        joined = inserted_new I;
        block_old = inserted_old I;
        block_from = block_from;
        met_old = λ d i. B.old d (A.old d i);
        met_from = λ d i. ⊎_elim (λ r. ⊎_elim (λ s. inl s) (λ s. inr (operand_a d s.0, s.1)) (A.from d r))
            (λ r. inr (subst⁻¹ (Operand (shape (table_from ks xs ys) e)) (r.0 ∙ q) (b_operand C e l h m), r.1)) (B.from d i);
        met_new = λ d o. ⊎_elim (λ r. later d (new_a d r)) (λ r. new_b d r.1) (reads_kind C e l d (operand_reads (shape (table_from ks xs ys) e) d o)).1;
      },
    )
      where
        later : (d : ℕ) → (in_set cs d ≡ true) ⊎ (in_set ns d ≡ true) ⊎ (in_set ds d ≡ true) → (in_set cs d ≡ true) ⊎ (in_set os d ≡ true) ⊎ (in_set ds d ≡ true)
        later d (inl i) = inl i
        later d (inr (inl i)) = inr (inl (B.old d i))
        later d (inr (inr i)) = inr (inr i)

        new_b : (d : ℕ) → d ≡ get_or ys e 0 → (in_set cs d ≡ true) ⊎ (in_set os d ≡ true) ⊎ (in_set ds d ≡ true)
        new_b d r = subst⁻¹ (λ (z : ℕ). (in_set cs z ≡ true) ⊎ (in_set os z ≡ true) ⊎ (in_set ds z ≡ true)) (r ∙ sym q) B.new
