-- what an entry of a claim reads, by its kind
use Rattle.std.specs.Prelude.{◌≡◌, refl, List, false, cond, not, ◌⊎◌, ℕ, ◌<◌, eqb, length, get_or}
use Rattle.std.proofs.Math.Path.{sym, subst⁻¹}
use Rattle.std.proofs.Common.{ap, ◌∙◌, subst, true≢false, inl, inr, ⊎_elim, arith, eq-eqb, ne_eqb}
use Rattle.std.proofs.Math.Decide.{dec_lt, ℕ_discrete}
use Rattle.formula.specs.Shape.{Shape, fix, Fix, mu, nu, shape, Operand, Fixpoint}
use Rattle.forming.specs.FormedLaws.{Reads}
use Rattle.forming.specs.Claim.{table_from, Claim, leaf_at, two_at, step-at, fix_at, name_at, mu_at, nu_at}

-- what `!= 0` says
pub not-zero : (x : ℕ) → not (eqb x 0) ≡ false → x ≡ 0
not-zero x h = go (ℕ_discrete x 0)
  where
    go : Dec (x ≡ 0) → x ≡ 0
    go (yes q) = q
    go (no n) = absurd (true≢false (sym (ap not (ne_eqb x 0 n)) ∙ h))

-- the fixpoint of a kind
unfoldable pub fix_of : ℕ → Fix
fix_of k = cond (eqb k 8) mu nu

module _ {ks xs ys : List ℕ} (C : Claim ks xs ys) (e : ℕ) (l : e < length ks) where
  pub fix_of_lem : 7 < get_or ks e 0 → get_or ks e 0 < 10 → shape (table_from ks xs ys) e ≡ fix (fix_of (get_or ks e 0)) (get_or xs e 0)
  unfolding fix_of
  fix_of_lem h k = go (ℕ_discrete (get_or ks e 0) 8)
    where
      go : Dec (get_or ks e 0 ≡ 8) → shape (table_from ks xs ys) e ≡ fix (cond (eqb (get_or ks e 0) 8) mu nu) (get_or xs e 0)
      go (yes q) = mu_at C e l q ∙ sym (rw (eq-eqb (get_or ks e 0) 8 q) refl)
      go (no n) = nu_at C e l (omega arith) ∙ sym (rw (ne_eqb (get_or ks e 0) 8 n) refl)

  module _ (c : ℕ) where
    abbrev Among : Type 0
    Among = (3 < get_or ks e 0) × ((c ≡ get_or xs e 0) ⊎ ((get_or ks e 0 < 6) × (c ≡ get_or ys e 0)))

    pub reads_kind : Reads (shape (table_from ks xs ys) e) c → Among
    reads_kind r = go (dec_lt (get_or ks e 0) 4) (dec_lt (get_or ks e 0) 6) (dec_lt (get_or ks e 0) 8) (dec_lt (get_or ks e 0) 10)
      where
        with_shape : {v : Shape} → shape (table_from ks xs ys) e ≡ v → Reads v c
        with_shape q = subst (λ (v : Shape). Reads v c) q r

        go : Dec (get_or ks e 0 < 4) → Dec (get_or ks e 0 < 6) → Dec (get_or ks e 0 < 8) → Dec (get_or ks e 0 < 10) → Among
        go (yes h) x y z = let (v, q) = leaf_at C e l h in absurd (with_shape q)
        go (no h) (yes k) y z = let (v, q) = two_at C e l (omega arith) k in (omega arith, ⊎_elim (λ p. inl p) (λ p. inr (k, p)) (with_shape q))
        go (no h) (no k) (yes m) z = let (v, q) = step-at C e l (omega arith) m in (omega arith, inl (with_shape q))
        go (no h) (no k) (no m) (yes n) = let (v, q) = fix_at C e l (omega arith) n in (omega arith, inl (with_shape q))
        go (no h) (no k) (no m) (no n) = (omega arith, inl (with_shape (name_at C e l (omega arith))))

  -- a name has no operand, any other that reads has those
  pub operand_name : (c : ℕ) → Operand (shape (table_from ks xs ys) e) c → get_or ks e 0 < 10
  operand_name c o = go (dec_lt (get_or ks e 0) 10)
    where
      go : Dec (get_or ks e 0 < 10) → get_or ks e 0 < 10
      go (yes h) = h
      go (no h) = absurd (subst (λ (v : Shape). Operand v c) (name_at C e l (omega arith)) o)

  pub a_operand : 3 < get_or ks e 0 → get_or ks e 0 < 10 → Operand (shape (table_from ks xs ys) e) (get_or xs e 0)
  a_operand h k = go (dec_lt (get_or ks e 0) 6) (dec_lt (get_or ks e 0) 8)
    where
      to : {v : Shape} → shape (table_from ks xs ys) e ≡ v → Operand v (get_or xs e 0) → Operand (shape (table_from ks xs ys) e) (get_or xs e 0)
      to q o = subst⁻¹ (λ (v : Shape). Operand v (get_or xs e 0)) q o

      go : Dec (get_or ks e 0 < 6) → Dec (get_or ks e 0 < 8) → Operand (shape (table_from ks xs ys) e) (get_or xs e 0)
      go (yes m) y = let (v, q) = two_at C e l h m in to q (inl refl)
      go (no m) (yes n) = let (v, q) = step-at C e l (omega arith) n in to q refl
      go (no m) (no n) = let (v, q) = fix_at C e l (omega arith) k in to q refl

  pub b_operand : 3 < get_or ks e 0 → get_or ks e 0 < 6 → Operand (shape (table_from ks xs ys) e) (get_or ys e 0)
  b_operand h k = let (v, q) = two_at C e l h k in subst⁻¹ (λ (u : Shape). Operand u (get_or ys e 0)) q (inr refl)

  pub plain_kind : get_or ks e 0 < 8 → Fixpoint (shape (table_from ks xs ys) e) → ⊥
  plain_kind h f = go (dec_lt (get_or ks e 0) 4) (dec_lt (get_or ks e 0) 6)
    where
      with_shape : {v : Shape} → shape (table_from ks xs ys) e ≡ v → Fixpoint v
      with_shape q = subst Fixpoint q f

      go : Dec (get_or ks e 0 < 4) → Dec (get_or ks e 0 < 6) → ⊥
      go (yes k) y = let (v, q) = leaf_at C e l k in with_shape q
      go (no k) (yes m) = let (v, q) = two_at C e l (omega arith) m in with_shape q
      go (no k) (no m) = let (v, q) = step-at C e l (omega arith) h in with_shape q

  -- no kind but that of a name lies above those of the fixpoints
  pub few_kinds : (get_or ks e 0 ≡ 10 → ⊥) → get_or ks e 0 < 10
  few_kinds n = omega (arith, n, C.known e l)
