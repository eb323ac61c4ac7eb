-- a scan fails at the first number that does not pass
use Rattle.std.specs.Prelude.{◌≡◌, refl, Bool, false, ℕ, ◌<◌}
use Rattle.std.proofs.Common.{arith}
use Rattle.verdict.specs.Verdict.{Verdict, accepted, refused, scan}
use Rattle.verdict.specs.VerdictLaws.{scan_first}
use Rattle.verdict.specs.ScanLaws.{FirstBad, Passed}

module _ (ok : ℕ → Bool) (number : ℕ → ℕ) (n : ℕ) (rest : Verdict) where
  pub scan_fails : (v : ℕ) → v < n → Passed ok v → ok v ≡ false → scan ok number n 0 rest ≡ refused (number v) v
  scan_fails v h f bad = scan_first ok number n 0 rest (record { inside = omega arith; bad = bad; numbered = refl; before = λ w _ k. f w k })

pub bad_found : {ok : ℕ → Bool} {n bad : ℕ} (number : ℕ) → FirstBad ok n n bad → bad < n → scan ok (λ _. number) n 0 accepted ≡ refused number bad
bad_found {ok} {n} {bad} number F h = scan_fails ok (λ _. number) n accepted bad h (F.failed h).1.0 (F.failed h).1.1
