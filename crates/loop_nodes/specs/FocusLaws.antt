-- the codes in focus, as the code finds them
use Rattle.std.specs.Prelude.{◌≡◌, ◌≢◌, Bool, ◌&&◌, ◌||◌, List, length, get_or, take, drop}
use Rattle.std.proofs.Math.Path.{refl}
use Rattle.std.proofs.Common.{◌∙◌, drop_of_length-le, drop-cons, eq-eqb, ne_eqb}
use Rattle.std.proofs.Math.Bool.{true, false}
use Prim.Native.Nat.{ℕ, suc, ◌+◌, ◌-◌, ◌<◌, ◌≤◌}
use Rattle.std.proofs.Math.Decide.{dec_lt}
use Rattle.std.proofs.Math.Numerals.{add-one}
use native.Mathlib.Omega.{arith}
use Rattle.std.proofs.Math.ListN.{get_or-eq_default}
use Rattle.std.proofs.Math.Seq.{take-nil}
use Rattle.verdict.specs.Tests.{any}
use Rattle.formula.specs.Rule
use Rattle.calculus.specs.Judge.{in_focus, on_loop}

module _ (cs : List ℕ) (end : ℕ) where
  -- the codes from i up to the end
  abbrev pub part : ℕ → List ℕ
  part i = take (end - i) (drop i cs)

  -- past the codes the code reads 0, which is out of focus
  pub part_step : (i : ℕ) → i < end → any in_focus (part i) ≡ (in_focus (get_or cs i 0) || any in_focus (part (i + 1)))
  unfolding any
  part_step i h = rw (more, add-one i) (go (dec_lt i (length cs)))
    where
      more : end - i ≡ suc (end - suc i)
      more = omega arith

      go : Dec (i < length cs) → any in_focus (take (suc (end - suc i)) (drop i cs)) ≡ (in_focus (get_or cs i 0) || any in_focus (take (end - suc i) (drop (suc i) cs)))
      go (yes k) = rw (drop-cons cs i 0 k) refl
      go (no k) = rw (drop_of_length-le cs {i = i} (omega arith), drop_of_length-le cs {i = suc i} (omega arith), get_or-eq_default cs 0 {n = i} (omega arith), take-nil {A = ℕ} (end - suc i)) refl

  pub focus_found : (i : ℕ) → i < end → in_focus (get_or cs i 0) ≡ true → any in_focus (part i) ≡ true
  focus_found i h e = part_step i h ∙ rw e refl

  pub focus_on : (i : ℕ) → i < end → in_focus (get_or cs i 0) ≡ false → any in_focus (part i) ≡ any in_focus (part (i + 1))
  focus_on i h e = part_step i h ∙ rw e refl

  pub focus_end : (i : ℕ) → end ≤ i → any in_focus (part i) ≡ false
  unfolding any
  focus_end i h = let z : end - i ≡ 0 = omega arith in rw z refl

-- the rule is looked at before the codes: it bars the node, or leaves it to them
module _ (r : ℕ) (l : List ℕ) where
  pub rule_bars : r ≡ Rule.F → false ≡ on_loop r l
  unfolding on_loop
  rule_bars e = rw (eq-eqb r Rule.F e) (go (any in_focus l))
    where
      go : (a : Bool) → false ≡ (a && false)
      go true = refl
      go false = refl

  pub rule_passes : r ≢ Rule.F → any in_focus l ≡ on_loop r l
  unfolding on_loop
  rule_passes k = rw (ne_eqb r Rule.F k) (go (any in_focus l))
    where
      go : (a : Bool) → a ≡ (a && true)
      go true = refl
      go false = refl
