-- what the lists of marks hold
use Rattle.std.specs.Prelude.{◌≡◌, refl, ◌⊎◌, [], ◌∷◌, true, false, ℕ, zero, suc, ◌≤◌}
use Rattle.std.proofs.Common.{ap, inl, inr, arith}
use Rattle.std.proofs.lemmas.Bool.{false≢true}
use Rattle.verdict.specs.Tells.{Tells, tells_as, tells_self, true_tells, false_tells, and_tells, or_tells}
use Rattle.conditions.specs.Rows.{Row, has, union, clear, single, up_to, meets}

pub has_union : (r s : Row) (x : ℕ) → Tells (has (union r s) x) ((has r x ≡ true) ⊎ (has s x ≡ true))
unfolding has union
has_union [] s x = record { says = inr; holds = only }
  where
    only : (false ≡ true) ⊎ (has s x ≡ true) → has s x ≡ true
    only (inl h) = absurd (false≢true h)
    only (inr h) = h
has_union (b ∷ r) [] x = record { says = inl; holds = only }
  where
    only : (has (b ∷ r) x ≡ true) ⊎ (false ≡ true) → has (b ∷ r) x ≡ true
    only (inl h) = h
    only (inr h) = absurd (false≢true h)
has_union (b ∷ r) (c ∷ s) zero = or_tells (tells_self b) (tells_self c)
has_union (b ∷ r) (c ∷ s) (suc x) = has_union r s x

pub has_clear : (y : ℕ) (r : Row) (x : ℕ) → Tells (has (clear y r) x) ((has r x ≡ true) × (x ≡ y → ⊥))
unfolding has clear
has_clear y [] x = false_tells (λ (h, k). false≢true h)
has_clear zero (b ∷ r) zero = false_tells (λ (h, k). k refl)
has_clear zero (b ∷ r) (suc x) = record { says = λ h. (h, λ q. omega arith); holds = λ (h, k). h }
has_clear (suc y) (b ∷ r) zero = record { says = λ h. (h, λ q. omega arith); holds = λ (h, k). h }
has_clear (suc y) (b ∷ r) (suc x) = tells_as (λ (h, k). (h, λ q. k (omega arith))) (λ (h, k). (h, λ q. k (ap suc q))) (has_clear y r x)

pub has_single : (y x : ℕ) → Tells (has (single y) x) (x ≡ y)
unfolding has single
has_single zero zero = true_tells refl
has_single zero (suc x) = false_tells (λ q. omega arith)
has_single (suc y) zero = false_tells (λ q. omega arith)
has_single (suc y) (suc x) = tells_as (λ q. ap suc q) (λ q. omega arith) (has_single y x)

pub has_up_to : (y x : ℕ) → Tells (has (up_to y) x) (x ≤ y)
unfolding has up_to
has_up_to zero zero = true_tells (omega arith)
has_up_to zero (suc x) = false_tells (λ q. omega arith)
has_up_to (suc y) zero = true_tells (omega arith)
has_up_to (suc y) (suc x) = tells_as (λ q. omega arith) (λ q. omega arith) (has_up_to y x)

-- a number in both
abbrev pub Common : Row → Row → Type 0
Common r s = (x : ℕ) × (has r x ≡ true) × (has s x ≡ true)

pub meets_tells : (r s : Row) → Tells (meets r s) (Common r s)
unfolding has meets
meets_tells [] s = false_tells (λ (x, h, k). false≢true h)
meets_tells (b ∷ r) [] = false_tells (λ (x, h, k). false≢true k)
meets_tells (b ∷ r) (c ∷ s) = tells_as into (λ (x, h, k). from x h k) (or_tells (and_tells (tells_self b) (tells_self c)) (meets_tells r s))
  where
    into : ((b ≡ true) × (c ≡ true)) ⊎ Common r s → Common (b ∷ r) (c ∷ s)
    into (inl (h, k)) = (0, h, k)
    into (inr (x, h, k)) = (suc x, h, k)

    from : (x : ℕ) → has (b ∷ r) x ≡ true → has (c ∷ s) x ≡ true → ((b ≡ true) × (c ≡ true)) ⊎ Common r s
    from zero h k = inl (h, k)
    from (suc x) h k = inr (x, h, k)
