-- when a scan accepts, and what it refuses
use Rattle.std.specs.Prelude.{◌≡◌, ◌⊎◌, Bool}
use Rattle.std.proofs.Math.Path.{refl}
use Rattle.std.proofs.Common.{inl, arith}
use Rattle.std.proofs.Math.Logic.{inr}
use Rattle.std.proofs.Math.Bool.{true, false}
use Prim.Native.Nat.{ℕ, zero, suc, ◌+◌, ◌<◌, ◌≤◌}
use Rattle.std.proofs.Math.Decide.{ℕ_discrete}
use Rattle.verdict.specs.Verdict.{Verdict, accepted, refused, pick, scan}

pub accepted_not_refused : {k q : ℕ} → refused k q ≡ accepted → ⊥
accepted_not_refused h = let z : ◌≡◌ {A = ℕ} 0 1 = cc in omega arith

-- q is the first fault
pub record First (ok : ℕ → Bool) (number : ℕ → ℕ) (v n k q : ℕ) : Type 0 where
  pub inside : (v ≤ q) × (q < v + n)
  pub bad : ok q ≡ false
  pub numbered : number q ≡ k
  pub before : (w : ℕ) → v ≤ w → w < q → ok w ≡ true

-- none of the n numbers from v on fails
abbrev pub Passes : (ℕ → Bool) → ℕ → ℕ → Type 0
Passes ok v n = (w : ℕ) → v ≤ w → w < v + n → ok w ≡ true

module _ (ok : ℕ → Bool) (number : ℕ → ℕ) where
  pub scan_says : (n v : ℕ) (rest : Verdict) → scan ok number n v rest ≡ accepted → Passes ok v n × (rest ≡ accepted)
  unfolding scan
  scan_says zero v rest h = (λ w a b. absurd (omega arith), h)
  scan_says (suc n) v rest h = go (ok v) refl h (scan_says n (suc v) rest)
    where
      go : (b : Bool) → ok v ≡ b → pick b (scan ok number n (suc v) rest) (refused (number v) v) ≡ accepted
          → (scan ok number n (suc v) rest ≡ accepted → Passes ok (suc v) n × (rest ≡ accepted))
          → Passes ok v (suc n) × (rest ≡ accepted)
      go true e h ih = let (f, r) = ih h in (λ w a b. at w a b (ℕ_discrete w v) f, r)
        where
          at : (w : ℕ) → v ≤ w → w < v + suc n → Dec (w ≡ v) → Passes ok (suc v) n → ok w ≡ true
          at w a b (yes q) f = rw q e
          at w a b (no q) f = f w (omega arith) (omega arith)
      go false e h ih = absurd (accepted_not_refused h)

  pub scan_holds : (n v : ℕ) (rest : Verdict) → Passes ok v n → scan ok number n v rest ≡ rest
  unfolding scan
  scan_holds zero v rest f = refl
  scan_holds (suc n) v rest f = rw (f v (omega arith) (omega arith)) (scan_holds n (suc v) rest (λ w a b. f w (omega arith) (omega arith)))

  pub scan_refuses : (n v : ℕ) (rest : Verdict) {k q : ℕ} → scan ok number n v rest ≡ refused k q
      → First ok number v n k q ⊎ (Passes ok v n × (rest ≡ refused k q))
  unfolding scan
  scan_refuses zero v rest h = inr (λ w a b. absurd (omega arith), h)
  scan_refuses (suc n) v rest {k} {q} h = go (ok v) refl h (scan_refuses n (suc v) rest)
    where
      at : (w : ℕ) → v ≤ w → Dec (w ≡ v) → ok v ≡ true → (suc v ≤ w → ok w ≡ true) → ok w ≡ true
      at w a (yes q) e f = rw q e
      at w a (no q) e f = f (omega arith)

      grow : ok v ≡ true → First ok number (suc v) n k q ⊎ (Passes ok (suc v) n × (rest ≡ refused k q)) → First ok number v (suc n) k q ⊎ (Passes ok v (suc n) × (rest ≡ refused k q))
      grow e (inl x) = inl (record {
        inside = omega (arith, x.inside);
        bad = x.bad;
        numbered = x.numbered;
        before = λ w a b. at w a (ℕ_discrete w v) e (λ c. x.before w c b);
      })
      grow e (inr (f, r)) = inr (λ w a b. at w a (ℕ_discrete w v) e (λ c. f w c (omega arith)), r)

      go : (b : Bool) → ok v ≡ b → pick b (scan ok number n (suc v) rest) (refused (number v) v) ≡ refused k q
          → (scan ok number n (suc v) rest ≡ refused k q → First ok number (suc v) n k q ⊎ (Passes ok (suc v) n × (rest ≡ refused k q)))
          → First ok number v (suc n) k q ⊎ (Passes ok v (suc n) × (rest ≡ refused k q))
      go true e h ih = grow e (ih h)
      go false e h ih =
          let s : v ≡ q = cc in
          let r : number v ≡ k = cc in
          inl (record {
            inside = omega arith;
            bad = rw (← s) e;
            numbered = rw (← s) r;
            before = λ w a b. absurd (omega arith);
          })

  -- the first fault decides
  pub scan_first : (n v : ℕ) (rest : Verdict) {k q : ℕ} → First ok number v n k q → scan ok number n v rest ≡ refused k q
  unfolding scan
  scan_first zero v rest x = absurd (omega (arith, x.inside))
  scan_first (suc n) v rest {k} {q} x = go (ℕ_discrete v q) (scan_first n (suc v) rest)
    where
      go : Dec (v ≡ q) → (First ok number (suc v) n k q → scan ok number n (suc v) rest ≡ refused k q) → pick (ok v) (scan ok number n (suc v) rest) (refused (number v) v) ≡ refused k q
      go (yes e) ih = rw (e, x.bad, x.numbered) refl
      go (no e) ih = rw (x.before v (omega arith) (omega (arith, x.inside))) (ih (record {
        inside = omega (arith, x.inside);
        bad = x.bad;
        numbered = x.numbered;
        before = λ w a b. x.before w (omega arith) b;
      }))
