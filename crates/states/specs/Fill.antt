-- a list that a loop fills from the front, one element a turn: below p its new values, from p on as it was
use Rattle.std.specs.Prelude.{◌≡◌, refl, List, ℕ, ◌+◌, ◌<◌, ◌≤◌, length, get_or, set}
use Rattle.std.proofs.Common.{◌∙◌, arith, length-set, get_or-set_same, get_or-set_other}
use Rattle.std.proofs.Math.Path.{subst⁻¹}
use Rattle.std.proofs.Math.Decide.{ℕ_discrete}

pub record Filled (f : ℕ → ℕ) (old : List ℕ) (p : ℕ) (new : List ℕ) : Type 0 where
  pub long : length new ≡ length old
  pub below : (e : ℕ) → e < p → get_or new e 0 ≡ f e
  pub above : (e : ℕ) → p ≤ e → get_or new e 0 ≡ get_or old e 0

pub filled_none : (f : ℕ → ℕ) (old : List ℕ) → Filled f old 0 old
filled_none f old = record { long = refl; below = λ e h. absurd (omega arith); above = λ e h. refl }

module _ {f : ℕ → ℕ} {old : List ℕ} {p : ℕ} {new : List ℕ} (F : Filled f old p new) where
  -- the element at p stays
  pub filled_keep : get_or new p 0 ≡ f p → Filled f old (p + 1) new
  filled_keep v = record { long = F.long; below = λ e h. go e h (ℕ_discrete e p); above = λ e h. F.above e (omega arith) }
    where
      go : (e : ℕ) → e < p + 1 → Dec (e ≡ p) → get_or new e 0 ≡ f e
      go e h (yes q) = subst⁻¹ (λ (z : ℕ). get_or new z 0 ≡ f z) q v
      go e h (no ne) = F.below e (omega arith)

  -- the element at p is stored
  pub filled_set : (v : ℕ) → p < length old → v ≡ f p → Filled f old (p + 1) (set new p v)
  filled_set v l q =
      record {
        long = length-set new p v ∙ F.long;
        below = λ e h. go e h (ℕ_discrete e p);
        above = λ e h. get_or-set_other new p e v 0 (λ q. omega arith) ∙ F.above e (omega arith);
      }
    where
      go : (e : ℕ) → e < p + 1 → Dec (e ≡ p) → get_or (set new p v) e 0 ≡ f e
      go e h (yes r) = subst⁻¹ (λ (z : ℕ). get_or (set new p v) z 0 ≡ f z) r (get_or-set_same new p v 0 (omega (arith, F.long)) ∙ q)
      go e h (no ne) = get_or-set_other new p e v 0 ne ∙ F.below e (omega arith)
