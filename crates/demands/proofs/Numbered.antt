-- an answer of 0 is an accepted verdict
use Rattle.std.specs.Prelude.{◌≡◌, refl, List, ℕ}
use Rattle.std.proofs.Common.{arith}
use Rattle.verdict.specs.Verdict as verdicts
use Rattle.verdict.specs.Verdict.{Verdict, accepted, packed}
use Rattle.encoding.specs.Encode.{Bytes}
use Rattle.demands.specs.Check.{verdict}
use Rattle.demands.specs.CheckExact.{verdict_earned}
use Rattle.demands.specs.Numbered.{earned_number}

-- 0 for accepted, and for nothing else
pub packed_zero : (claim proof : List ℕ) → Bytes claim → Bytes proof → packed (verdict claim proof) ≡ 0 → verdict claim proof ≡ accepted
packed_zero claim proof bc bp h = go (verdict claim proof) refl
  where
    go : (v : Verdict) → verdict claim proof ≡ v → verdict claim proof ≡ accepted
    go accepted e = e
    go (verdicts.refused n q) e =
        let z : packed (verdicts.refused n q) ≡ 0 = rw e at h in
        absurd (omega (arith, earned_number (verdict_earned claim proof bc bp e)))
