-- the judge's walk up the parents, one step at a time, over a table of owners
use Rattle.std.specs.Prelude.{◌≡◌, List, [], ◌∷◌, ℕ, zero, suc, ◌<◌, ◌≤◌, length, get_or}
use Rattle.std.proofs.Math.Path.{refl}
use Rattle.std.proofs.Common.{sym, ap, ◌∙◌, arith}
use Rattle.std.proofs.Math.Decide.{ℕ_discrete, dec_le}
use Rattle.formula.specs.Nodes.{Proof}
use Rattle.calculus.specs.View.{plain}
use Rattle.calculus.specs.Judge.{parent, climb}
use Rattle.calculus.specs.Steps.{climb_end, climb_root, climb_step}
use Rattle.tree.specs.Owners.{Owned, Parented}
use Rattle.spans.specs.Spans.{up}

-- the walk from w up to the first number not above c, or to the root
abbrev pub path : Proof → ℕ → ℕ → List ℕ
path p c w = climb (plain p) w c w

-- the table holds the parents of p's nodes, each of a smaller number
pub record Parents (p : Proof) (owners : List ℕ) : Type 0 where
  pub owned : Owned p (length p) owners
  pub parented : Parented owners (length p)

module _ (p : Proof) (owners : List ℕ) (R : Parents p owners) (c : ℕ) where
  -- one step, with the parent from the table
  one_up : (f w : ℕ) → c < w → w < length p → 0 < get_or owners w 0 → climb (plain p) (suc f) c w ≡ w ∷ climb (plain p) f c (up owners w)
  unfolding parent
  one_up f w k h o = climb_step (plain p) f c w k (rw (← R.owned.each w h) o) ∙ rw (R.owned.each w h) refl

  no_up : (f w : ℕ) → w < length p → get_or owners w 0 ≡ 0 → climb (plain p) f c w ≡ w ∷ []
  no_up f w h o = climb_root (plain p) f c w (rw (← R.owned.each w h) o)

  -- enough fuel is enough
  climb_fuel : (f g w : ℕ) → w ≤ f → w ≤ g → w < length p → climb (plain p) f c w ≡ climb (plain p) g c w
  climb_fuel zero g w h k i = climb_end (plain p) zero c w (omega arith) ∙ sym (climb_end (plain p) g c w (omega arith))
  climb_fuel (suc f) zero w h k i = climb_end (plain p) (suc f) c w (omega arith) ∙ sym (climb_end (plain p) zero c w (omega arith))
  climb_fuel (suc f) (suc g) w h k i = go (dec_le w c) (ℕ_discrete (get_or owners w 0) 0) (climb_fuel f g (up owners w))
    where
      go : Dec (w ≤ c) → Dec (get_or owners w 0 ≡ 0)
          → (up owners w ≤ f → up owners w ≤ g → up owners w < length p → climb (plain p) f c (up owners w) ≡ climb (plain p) g c (up owners w))
          → climb (plain p) (suc f) c w ≡ climb (plain p) (suc g) c w
      go (yes e) _ ih = climb_end (plain p) (suc f) c w e ∙ sym (climb_end (plain p) (suc g) c w e)
      go (no n) (yes e) ih = no_up (suc f) w i e ∙ sym (no_up (suc g) w i e)
      go (no n) (no m) ih =
          let b = R.parented w i in
          one_up f w (omega arith) i (omega arith) ∙ ap (λ (l : List ℕ). w ∷ l) (ih (omega arith) (omega arith) (omega arith)) ∙ sym (one_up g w (omega arith) i (omega arith))

  pub path_step : (w : ℕ) → c < w → w < length p → 0 < get_or owners w 0 → path p c w ≡ w ∷ path p c (up owners w)
  path_step w k h o = go w refl
    where
      go : (f : ℕ) → f ≡ w → climb (plain p) f c w ≡ w ∷ path p c (up owners w)
      go zero e = absurd (omega arith)
      go (suc f) e =
          let b = R.parented w h in
          one_up f w k h o ∙ ap (λ (l : List ℕ). w ∷ l) (climb_fuel f (up owners w) (up owners w) (omega arith) (omega arith) (omega arith))

  pub path_end : (w : ℕ) → w ≤ c → path p c w ≡ w ∷ []
  path_end w h = climb_end (plain p) w c w h

  pub path_root : (w : ℕ) → w < length p → get_or owners w 0 ≡ 0 → path p c w ≡ w ∷ []
  path_root w h o = no_up w w h o
