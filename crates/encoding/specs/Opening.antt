-- whether letters stand in front of a file: the test that the program makes, and what it means for the reading
use Rattle.std.specs.Prelude.{◌≡◌, refl, List, [], ◌∷◌, ◌++◌, Bool, true, false, ◌&&◌, ℕ, zero, suc, ◌<◌, ◌≤◌, eqb, length, get_or, drop}
use Rattle.std.proofs.Common.{sym, ap, arith}
use Rattle.std.proofs.lemmas.Bool.{false≢true}
use Rattle.verdict.specs.Tells.{Tells, tells_as, and_tells, eqb_tells, fails_holds}
use Rattle.encoding.specs.FileLaws.{Opens}

unfoldable pub opens : List ℕ → List ℕ → Bool
opens [] s = true
opens (c ∷ l) [] = false
opens (c ∷ l) (x ∷ s) = eqb x c && opens l s

-- byte by byte
pub record Begins (l s : List ℕ) : Type 0 where
  pub long : length l ≤ length s
  pub same : (i : ℕ) → i < length l → get_or s i 0 ≡ get_or l i 0

pub begins_tells : (l s : List ℕ) → Tells (opens l s) (Begins l s)
unfolding opens
begins_tells [] s = record { says = λ _. record { long = omega arith; same = λ i h. absurd (omega arith) }; holds = λ _. refl }
begins_tells (c ∷ l) [] = record { says = λ h. absurd (false≢true h); holds = λ b. absurd (omega (arith, b.long)) }
begins_tells (c ∷ l) (x ∷ s) = tells_as into (λ b. (b.same 0 (omega arith), record { long = omega (arith, b.long); same = λ i h. b.same (suc i) (omega arith) })) (and_tells (eqb_tells x c) (begins_tells l s))
  where
    into : (x ≡ c) × Begins l s → Begins (c ∷ l) (x ∷ s)
    into (e, b) = record { long = omega (arith, b.long); same = at }
      where
        at : (i : ℕ) → i < suc (length l) → get_or (x ∷ s) i 0 ≡ get_or (c ∷ l) i 0
        at zero h = e
        at (suc i) h = b.same i (omega arith)

pub opens_tells : (l s : List ℕ) → Tells (opens l s) (Opens l s)
unfolding opens
opens_tells [] s = record { says = λ _. (s, refl); holds = λ _. refl }
opens_tells (c ∷ l) [] = record { says = λ h. absurd (false≢true h); holds = λ (r, e). let z : ◌≡◌ {A = ℕ} 0 (suc (length (l ++ r))) = ap length e in absurd (omega arith) }
opens_tells (c ∷ l) (x ∷ s) =
    tells_as (λ (e, (r, i)). (r, rw (e, i) refl)) (λ (r, e). (ap (λ (u : List ℕ). get_or u 0 0) e, (r, ap (λ (u : List ℕ). drop 1 u) e)))
    (and_tells (eqb_tells x c) (opens_tells l s))

-- for the program's return
pub opens_as : (l s : List ℕ) (test : Bool) → (test ≡ true → Opens l s) → (Opens l s → test ≡ true) → test ≡ opens l s
opens_as l s true f g = sym ((opens_tells l s).holds (f refl))
opens_as l s false f g = sym (fails_holds (opens_tells l s) (λ o. false≢true (g o)))

-- byte by byte
pub differs : (l s : List ℕ) → (Begins l s → ⊥) → false ≡ opens l s
differs l s n = sym (fails_holds (begins_tells l s) n)

pub agrees : (a b c d : ℕ) (s : List ℕ) → 4 ≤ length s → get_or s 0 0 ≡ a → get_or s 1 0 ≡ b → get_or s 2 0 ≡ c → get_or s 3 0 ≡ d → true ≡ opens (a ∷ b ∷ c ∷ d ∷ []) s
agrees a b c d s l h i j k = sym ((begins_tells (a ∷ b ∷ c ∷ d ∷ []) s).holds (record { long = l; same = at }))
  where
    at : (n : ℕ) → n < 4 → get_or s n 0 ≡ get_or (a ∷ b ∷ c ∷ d ∷ []) n 0
    at zero z = h
    at (suc zero) z = i
    at (suc (suc zero)) z = j
    at (suc (suc (suc zero))) z = k
    at (suc (suc (suc (suc n)))) z = absurd (omega arith)
