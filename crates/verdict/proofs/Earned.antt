-- what a number that is earned, or none, tells of the number that 0 stands in for
use Rattle.std.specs.Prelude.{◌≡◌, ◌<◌, ℕ, zero, suc, Option, None, Some}
use Rattle.std.proofs.Common.{sym, arith, subst}
use Rattle.std.proofs.Math.Path.{refl}
use Rattle.verdict.specs.Shown.{earned}

abbrev IsNumber : Option ℕ → ℕ → Type 0
IsNumber None n = n ≡ 0
IsNumber (Some m) n = (m ≡ n) × (n ≡ 0 → ⊥)

is_number : (n : ℕ) → IsNumber (earned n) n
is_number zero = refl
is_number (suc n) = (refl, λ h. absurd (omega arith))

pub earned_some : {m n : ℕ} → Some m ≡ earned n → (m ≡ n) × (n ≡ 0 → ⊥)
earned_some {n = n} h = subst (λ o. IsNumber o n) (sym h) (is_number n)

pub earned_none : {n : ℕ} → None ≡ earned n → n ≡ 0
earned_none {n = n} h = subst (λ o. IsNumber o n) (sym h) (is_number n)
