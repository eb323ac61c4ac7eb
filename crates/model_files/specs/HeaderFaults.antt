-- a part that is not filled is written and zero, and zero fits a part
use Rattle.std.specs.Prelude.{◌≡◌, refl, Bool, true, false, ℕ, ◌<◌}
use Rattle.std.proofs.lemmas.Bool.{false≢true}
use Rattle.std.proofs.Math.Decide.{ℕ_discrete}
use Rattle.model_files.specs.Header.{FitPart, NotZero}

-- what is not filled stands, and is zero
pub unfilled : (stands : Bool) (x : ℕ) → (NotZero stands x → ⊥) → (stands ≡ true) × (x ≡ 0)
unfilled false x u = absurd (u (λ h. absurd (false≢true h)))
unfilled true x u = (refl, go (ℕ_discrete x 0))
  where
    go : Dec (x ≡ 0) → x ≡ 0
    go (yes e) = e
    go (no e) = absurd (u (λ _. e))

pub zero-fits : (bound : ℕ) (stands : Bool) → 0 < bound → FitPart bound stands 0
zero-fits bound true h = h
zero-fits bound false h = refl
