-- a scan from 0 on, as a loop walks it: every number so far has passed
use Rattle.std.specs.Prelude.{◌≡◌, refl, Bool, true, false, ℕ, zero, suc, ◌+◌, ◌<◌, ◌≤◌}
use Rattle.std.proofs.Common.{arith, below_more}
use Rattle.verdict.specs.Verdict.{Verdict, accepted, refused, pick, scan}
use Rattle.verdict.specs.VerdictLaws.{scan_holds}

abbrev pub Passed : (ℕ → Bool) → ℕ → Type 0
Passed ok v = (w : ℕ) → w < v → ok w ≡ true

module _ (ok : ℕ → Bool) (number : ℕ → ℕ) (n : ℕ) (rest : Verdict) where
  pub scan_passes : Passed ok n → scan ok number n 0 rest ≡ rest
  scan_passes f = scan_holds ok number n 0 rest (λ w _ h. f w (omega arith))

-- the first number below v that fails, or none: then bad is not below n
pub record FirstBad (ok : ℕ → Bool) (n v bad : ℕ) : Type 0 where
  pub failed : bad < n → (bad < v) × (Passed ok bad × (ok bad ≡ false))
  pub none : n ≤ bad → Passed ok v

module _ {ok : ℕ → Bool} {n v bad : ℕ} (F : FirstBad ok n v bad) where
  pub bad_stays : bad < n → FirstBad ok n (v + 1) bad
  bad_stays h = record { failed = λ l. (omega (arith, (F.failed l).0), (F.failed l).1); none = λ l. absurd (omega arith) }

  pub good_passes : n ≤ bad → ok v ≡ true → FirstBad ok n (v + 1) bad
  good_passes h e = record { failed = λ l. absurd (omega arith); none = λ l. below_more (λ w. ok w ≡ true) v (F.none h) e }

  pub bad_here : n ≤ bad → v < n → ok v ≡ false → FirstBad ok n (v + 1) v
  bad_here h l e = record { failed = λ _. (omega arith, (F.none h, e)); none = λ k. absurd (omega arith) }

pub none_found : {ok : ℕ → Bool} {n bad : ℕ} (number : ℕ) → FirstBad ok n n bad → n ≤ bad → scan ok (λ _. number) n 0 accepted ≡ accepted
none_found {ok} {n} {bad} number F h = scan_passes ok (λ _. number) n accepted (F.none h)

-- a refusal stands, whatever would come after it
abbrev pub after : Verdict → Verdict → Verdict
after accepted rest = rest
after (refused k q) rest = refused k q

pub scan_then : (ok : ℕ → Bool) (number : ℕ → ℕ) (n v : ℕ) (rest : Verdict) → scan ok number n v rest ≡ after (scan ok number n v accepted) rest
unfolding scan
scan_then ok number zero v rest = refl
scan_then ok number (suc n) v rest = go (ok v) (scan_then ok number n (suc v) rest)
  where
    go : (b : Bool) → scan ok number n (suc v) rest ≡ after (scan ok number n (suc v) accepted) rest
        → pick b (scan ok number n (suc v) rest) (refused (number v) v) ≡ after (pick b (scan ok number n (suc v) accepted) (refused (number v) v)) rest
    go true e = e
    go false e = refl
