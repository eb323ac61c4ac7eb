-- a form that the opening tells is a number, and not the 0 that stands for none
use Rattle.std.specs.Prelude.{◌≡◌, ℕ, Some}
use Rattle.std.proofs.Common.{sym, ◌∙◌}
use Rattle.verdict.specs.Shown.{earned}
use Rattle.verdict.proofs.Earned.{earned_some}

pub form_known : {f n : ℕ} → Some f ≡ earned n → (f ≡ n) × (f ≡ 0 → ⊥)
form_known h = let (e, some) = earned_some h in (e, λ z. some (sym e ∙ z))
