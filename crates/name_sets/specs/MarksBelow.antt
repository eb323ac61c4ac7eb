-- the set of the numbers below a bound that pass a test, grown by one number at a time
use Rattle.std.specs.Prelude.{◌≡◌, refl, Bool, true, false, ◌||◌, ◌&&◌, ℕ, ◌+◌, ◌<◌, eqb, ltb}
use Rattle.std.proofs.Common.{ap, ◌∙◌, sym, arith, lt-ltb, le-ltb, eq-eqb, ne_eqb}
use Rattle.std.proofs.Math.Decide.{dec_lt, ℕ_discrete}
use Rattle.name_sets.specs.NameSets.{holds, Marks}
use Rattle.name_sets.specs.declared.Names.{Names}

abbrev pub MarksBelow : Names → ℕ → (ℕ → Bool) → Type 0
MarksBelow m e P = Marks m (λ n. ltb n e && P n)

pub below_none : (m : Names) (P : ℕ → Bool) → Marks m (λ n. false) → MarksBelow m 0 P
below_none m P q n h = rw (le-ltb n 0 (omega arith)) (q n h)

or-false : (b : Bool) → (b || false) ≡ b
or-false true = refl
or-false false = refl

-- away from e one more number changes no test
ltb_more : (n e : ℕ) → (n ≡ e → ⊥) → ltb n (e + 1) ≡ ltb n e
ltb_more n e ne = go (dec_lt n e)
  where
    go : Dec (n < e) → ltb n (e + 1) ≡ ltb n e
    go (yes h) = lt-ltb n (e + 1) (omega arith) ∙ sym (lt-ltb n e h)
    go (no h) = le-ltb n (e + 1) (omega arith) ∙ sym (le-ltb n e (omega arith))

module _ (m : Names) (P : ℕ → Bool) (e : ℕ) (below : MarksBelow m e P) where
  pub below_skip : P e ≡ false → MarksBelow m (e + 1) P
  below_skip p n h = below n h ∙ go (ℕ_discrete n e)
    where
      go : Dec (n ≡ e) → (ltb n e && P n) ≡ (ltb n (e + 1) && P n)
      go (yes q) = rw (q, le-ltb e e (omega arith), lt-ltb e (e + 1) (omega arith)) (sym p)
      go (no q) = rw (ltb_more n e q) refl

  pub below_with : P e ≡ true → (r : Names) → Marks r (λ n. holds m n || eqb n e) → MarksBelow r (e + 1) P
  below_with p r q n h = q n h ∙ ap (λ (b : Bool). b || eqb n e) (below n h) ∙ go (ℕ_discrete n e)
    where
      go : Dec (n ≡ e) → ((ltb n e && P n) || eqb n e) ≡ (ltb n (e + 1) && P n)
      go (yes q) = rw (q, le-ltb e e (omega arith), lt-ltb e (e + 1) (omega arith), eq-eqb e e refl) (sym p)
      go (no q) = rw (ltb_more n e q, ne_eqb n e q) (or-false (ltb n e && P n))
