-- a number put into a set of words, or taken out of it: one bit of one word changes
use Rattle.std.specs.Prelude.{◌≡◌, refl, List, Bool, true, false, not, ◌||◌, ◌&&◌, ℕ, ◌/◌, ◌%◌, ◌<◌, eqb, length, get_or, set}
use Rattle.std.proofs.Common.{ap, sym, arith, get_or-set_same, get_or-set_other, eq-eqb, ne_eqb}
use Rattle.std.proofs.Math.Decide.{ℕ_discrete}
use Rattle.bits.specs.Bits.{bit}
use Rattle.bits.specs.WordLaws.{with_bit, without_bit, with_bit_lem, without_bit_lem}
use Rattle.bits.specs.WordSet.{in_set}

-- one word anew: where its bits change by f at the number's bit, the set changes by f at the number
changed : (f : Bool → Bool → Bool) → ((b : Bool) → f b false ≡ b)
    → (w : List ℕ) (c x : ℕ) → c / 64 < length w
    → ((k : ℕ) → bit x k ≡ f (bit (get_or w (c / 64) 0) k) (eqb k (c % 64)))
    → (d : ℕ) → in_set (set w (c / 64) x) d ≡ f (in_set w d) (eqb d c)
unfolding in_set
changed f keeps w c x h b d = go (ℕ_discrete (d / 64) (c / 64)) (ℕ_discrete d c)
  where
    go : Dec (d / 64 ≡ c / 64) → Dec (d ≡ c) → bit (get_or (set w (c / 64) x) (d / 64) 0) (d % 64) ≡ f (bit (get_or w (d / 64) 0) (d % 64)) (eqb d c)
    go (yes e) (yes q) = rw (e, get_or-set_same w (c / 64) x 0 h, b (d % 64), eq-eqb d c q, eq-eqb (d % 64) (c % 64) (ap (λ (n : ℕ). n % 64) q)) refl
    go (yes e) (no n) = rw (e, get_or-set_same w (c / 64) x 0 h, b (d % 64), ne_eqb d c n, ne_eqb (d % 64) (c % 64) (λ q. n (omega arith))) refl
    go (no n) (yes q) = absurd (n (ap (λ (m : ℕ). m / 64) q))
    go (no n) (no m) = rw (get_or-set_other w (c / 64) (d / 64) x 0 n, ne_eqb d c m) (sym (keeps _))

or-false : (b : Bool) → (b || false) ≡ b
or-false true = refl
or-false false = refl

and-true : (b : Bool) → (b && true) ≡ b
and-true true = refl
and-true false = refl

module _ (w : List ℕ) (c : ℕ) (h : c / 64 < length w) where
  pub in_inserted : (d : ℕ) → in_set (set w (c / 64) (with_bit (get_or w (c / 64) 0) (c % 64))) d ≡ (in_set w d || eqb d c)
  in_inserted = changed (λ a b. a || b) or-false w c _ h (λ k. with_bit_lem _ (c % 64) k (omega arith))

  pub in_removed : (d : ℕ) → in_set (set w (c / 64) (without_bit (get_or w (c / 64) 0) (c % 64))) d ≡ (in_set w d && not (eqb d c))
  in_removed = changed (λ a b. a && not b) and-true w c _ h (λ k. without_bit_lem _ (c % 64) k (omega arith))
