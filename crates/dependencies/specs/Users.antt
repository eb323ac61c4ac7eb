-- who reads each entry's word: that entry e reads c stands in the set as 256 * c + e
use Rattle.std.specs.Prelude.{◌≡◌, refl, List, true, ℕ, ◌+◌, ◌*◌, ◌<◌, length, get_or}
use Rattle.std.proofs.Common.{sym, ap, ◌∙◌, subst, ⊎_elim, arith}
use Rattle.std.proofs.Math.Path.{subst⁻¹}
use Rattle.std.proofs.Math.Decide.{ℕ_discrete}
use Rattle.formula.specs.Shape.{shape}
use Rattle.forming.specs.FormedLaws.{Reads}
use Rattle.entry_sets.specs.Counting.{Within}
use Rattle.bits.specs.WordSet.{in_set}
use Rattle.entry_sets.specs.Sets.{Inserted, inserted_old, inserted_new}
use Rattle.forming.specs.Claim.{table_from, Claim}
use Rattle.dependencies.specs.Operands.{reads_kind}

module _ (ks xs ys : List ℕ) where
  -- of the entries below p
  pub record UsersBelow (p : ℕ) (us : List ℕ) : Type 0 where
    pub long : length us ≡ 1024
    pub there : (e c : ℕ) → e < p → Reads (shape (table_from ks xs ys) e) c → in_set us (256 * c + e) ≡ true

  abbrev pub Users : List ℕ → Type 0
  Users us = UsersBelow (length ks) us

  -- what e reads is entered
  pub record Entered (e : ℕ) (us vs : List ℕ) : Type 0 where
    pub long : length vs ≡ length us
    pub old : Within (in_set us) (in_set vs)
    pub new : (c : ℕ) → Reads (shape (table_from ks xs ys) e) c → in_set vs (256 * c + e) ≡ true

  pub users_none : (us : List ℕ) → length us ≡ 1024 → UsersBelow 0 us
  users_none us l = record { long = l; there = λ e c h. absurd (omega arith) }

  pub users_more : (p : ℕ) (us vs : List ℕ) → UsersBelow p us → Entered p us vs → UsersBelow (p + 1) vs
  users_more p us vs U E = record { long = E.long ∙ U.long; there = λ e c h r. go e c h r (ℕ_discrete e p) }
    where
      go : (e c : ℕ) → e < p + 1 → Reads (shape (table_from ks xs ys) e) c → Dec (e ≡ p) → in_set vs (256 * c + e) ≡ true
      go e c h r (yes q) =
          ap (λ (z : ℕ). in_set vs (256 * c + z)) q ∙ E.new c (subst (λ (z : ℕ). Reads (shape (table_from ks xs ys) z) c) q r)
      go e c h r (no n) = E.old (256 * c + e) (U.there e c (omega arith) r)

module _ {ks xs ys : List ℕ} (C : Claim ks xs ys) (e : ℕ) (l : e < length ks) (us : List ℕ) where
  pub entered_none : get_or ks e 0 < 4 → Entered ks xs ys e us us
  entered_none h = record { long = refl; old = λ d i. i; new = λ c r. absurd (omega (arith, (reads_kind C e l c r).0)) }

  module _ (vs : List ℕ) (a : ℕ) (p : a ≡ get_or xs e 0) (I : Inserted us (256 * a + e) vs) where
    pub entered_one : 5 < get_or ks e 0 → Entered ks xs ys e us vs
    entered_one h =
        record {
          long = I.long;
          old = inserted_old I;
          new = λ c r. ⊎_elim (λ q. subst⁻¹ (λ (z : ℕ). in_set vs (256 * z + e) ≡ true) (q ∙ sym p) (inserted_new I)) (λ q. absurd (omega (arith, q.0))) (reads_kind C e l c r).1;
        }

    pub entered_two : (zs : List ℕ) (b : ℕ) → b ≡ get_or ys e 0 → Inserted vs (256 * b + e) zs → Entered ks xs ys e us zs
    entered_two zs b m J =
        record {
          long = J.long ∙ I.long;
          old = λ d i. inserted_old J d (inserted_old I d i);
          new = λ c r. ⊎_elim (λ q. inserted_old J _ (subst⁻¹ (λ (z : ℕ). in_set vs (256 * z + e) ≡ true) (q ∙ sym p) (inserted_new I)))
              (λ q. subst⁻¹ (λ (z : ℕ). in_set zs (256 * z + e) ≡ true) (q.1 ∙ sym m) (inserted_new J)) (reads_kind C e l c r).1;
        }
