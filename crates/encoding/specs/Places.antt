-- parsers at a place of a file that is indexed: what they get there, and where the file ends early
use Rattle.std.specs.Prelude.{◌≡◌, refl, List, [], ◌∷◌, true, ℕ, zero, suc, ◌+◌, ◌<◌, ◌≤◌, drop}
use Rattle.std.proofs.Math.Path.{ap}
use Rattle.std.proofs.Common.{◌∙◌, le_of_suc-le-suc}
use Rattle.std.proofs.Math.Decide.{ℕ_discrete}
use native.Mathlib.Omega.{arith}
use Rattle.std.proofs.Math.ListN.{length, get_or}
use Rattle.encoding.specs.Parse.{Got, fault, got, bind, word, byte, bytes, two, field}

-- a place of the file, under a limit: places shortly after it still fit two bytes
pub record InFile (s : List ℕ) (limit at : ℕ) : Type 0 where
  pub within : at ≤ length s
  pub low : at ≤ limit

drop_here : (s : List ℕ) (at : ℕ) → at < length s → drop at s ≡ get_or s at 0 ∷ drop (suc at) s
drop_here [] at h = absurd (omega arith)
drop_here (x ∷ s) zero h = refl
drop_here (x ∷ s) (suc at) h = drop_here s at (le_of_suc-le-suc h)

pub drop_all : (s : List ℕ) (at : ℕ) → length s ≤ at → drop at s ≡ []
drop_all [] zero h = refl
drop_all [] (suc at) h = refl
drop_all (x ∷ s) zero h = absurd (omega arith)
drop_all (x ∷ s) (suc at) h = drop_all s at (le_of_suc-le-suc h)

-- bytes stand at a place
pub drop_some : (s : List ℕ) (at : ℕ) → at < length s → drop at s ≡ get_or s at 0 ∷ drop (at + 1) s
drop_some s at h = let e : suc at ≡ at + 1 = omega arith in drop_here s at h ∙ ap (λ (n : ℕ). get_or s at 0 ∷ drop n s) e

-- the number of the two bytes at a place
abbrev pub word_at : List ℕ → ℕ → ℕ
word_at s at = word (get_or s at 0, get_or s (at + 1) 0)

module _ (early : ℕ) (s : List ℕ) (at : ℕ) where
  pub byte_at : at < length s → byte early (drop at s) at ≡ got (get_or s at 0) (drop (at + 1) s) (at + 1)
  byte_at h =
      let e : suc at ≡ at + 1 = omega arith in
      ap (λ (l : List ℕ). byte early l at) (drop_some s at h) ∙ ap (got (get_or s at 0) (drop (at + 1) s)) e

  pub byte_end : at ≡ length s → byte early (drop at s) at ≡ fault early (length s)
  byte_end h = ap (λ (l : List ℕ). byte early l at) (drop_all s at (omega arith)) ∙ ap (fault early) h

module _ (early : ℕ) (s : List ℕ) (at : ℕ) where
  second : Got ℕ → Got (ℕ × ℕ)
  second g = bind g (λ y t z. got (get_or s at 0, y) t z)

  past_first : at < length s → bytes early (drop at s) at ≡ second (byte early (drop (at + 1) s) (at + 1))
  unfolding second
  past_first h = ap (λ (g : Got ℕ). bind g (λ x r o. bind (byte early r o) (λ y t z. got (x, y) t z))) (byte_at early s at h)

  pub bytes_at : at + 1 < length s → bytes early (drop at s) at ≡ got (get_or s at 0, get_or s (at + 1) 0) (drop (at + 2) s) (at + 2)
  unfolding second
  bytes_at h =
      let e : at + 1 + 1 ≡ at + 2 = omega arith in
      past_first (omega arith)
      ∙ ap second (byte_at early s (at + 1) h)
      ∙ ap (λ (n : ℕ). got (get_or s at 0, get_or s (at + 1) 0) (drop n s) n) e

  pub bytes_end : at ≤ length s → length s < at + 2 → bytes early (drop at s) at ≡ fault early (length s)
  unfolding second
  bytes_end l h = cases (ℕ_discrete at (length s))
    where
      at-end : at ≡ length s → bytes early (drop at s) at ≡ fault early (length s)
      at-end e = ap (λ (g : Got ℕ). bind g (λ x r o. bind (byte early r o) (λ y t z. got (x, y) t z))) (byte_end early s at e)

      before_end : at + 1 ≡ length s → bytes early (drop at s) at ≡ fault early (length s)
      before_end e = past_first (omega arith) ∙ ap second (byte_end early s (at + 1) e)

      cases : Dec (at ≡ length s) → bytes early (drop at s) at ≡ fault early (length s)
      cases (yes e) = at-end e
      cases (no n) = before_end (omega arith)

  pub two_at : at + 1 < length s → two early (drop at s) at ≡ got (word_at s at) (drop (at + 2) s) (at + 2)
  two_at h = ap (λ (g : Got (ℕ × ℕ)). bind g (λ x r o. got (word x) r o)) (bytes_at h)

  pub two_end : at ≤ length s → length s < at + 2 → two early (drop at s) at ≡ fault early (length s)
  two_end l h = ap (λ (g : Got (ℕ × ℕ)). bind g (λ x r o. got (word x) r o)) (bytes_end l h)

  -- a field that stands, and one that does not
  pub field_at : at + 1 < length s → field early true (drop at s) at ≡ got (word_at s at) (drop (at + 2) s) (at + 2)
  field_at h = two_at h
