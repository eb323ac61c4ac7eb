-- How many free names of an entry lie below a number: so many are bound in it while the fixpoints from there on are written out, and the
-- same number tells how many are bound in its operands.
use Rattle.std.specs.Prelude.{◌≡◌, Bool, eqb}
use Rattle.std.proofs.Math.Path.{refl, ap}
use Rattle.std.proofs.Common.{sym, ◌∙◌, eq-eqb, ne_eqb}
use Rattle.std.proofs.Math.Bool.{true, false}
use mathlib.Core.List.{List, [], ◌∷◌, ◌++◌}
use Prim.Native.Nat.{ℕ, zero, suc, ◌+◌, ◌-◌, ◌<◌, ◌≤◌}
use Rattle.std.proofs.Math.Decide.{ℕ_discrete}
use native.Mathlib.Omega.{arith}
use Rattle.std.proofs.Math.ListN.{length, length-append, take}
use Rattle.std.proofs.Math.Seq.{take-append_seam}
use Rattle.verdict.specs.Tests.{keep}
use Rattle.verdict.specs.Tells.{Tells, fails_holds, tells_as, eqb_tells, same_test}
use Rattle.formula.specs.Table.{Table}
use Rattle.formula.specs.Shape.{Shape, step, fix, name, Step, Fix, shape, Operand, Fixpoint}
use Rattle.conditions.specs.Free.{Free, named, inside}
use Rattle.conditions.specs.WellFormed.{WellFormed}
use Rattle.numbering.specs.FreeNames.{free_by}
use Rattle.numbering.specs.Only.{only, range, only_only}
use Rattle.numbering.specs.Forms.{within, scope, in_operand, body_below}

-- one more or not
abbrev pub more : Bool → ℕ → ℕ
more true n = suc n
more false n = n

-- so many of the numbers below q pass
unfoldable pub tally : (ℕ → Bool) → ℕ → ℕ
unfolding only range
tally g q = length (only g (range 0 q))

pub length_tally : (g : ℕ → Bool) (q : ℕ) → length (only g (range 0 q)) ≡ tally g q
unfolding tally
length_tally g q = refl

-- s numbers from i on: m, then n from j on
pub only_split : (g : ℕ → Bool) (m n i s j : ℕ) → s ≡ m + n → j ≡ i + m → only g (range i s) ≡ only g (range i m) ++ only g (range j n)
unfolding only range
only_split g zero n i s j u w =
    let x : s ≡ n = omega arith in
    let y : i ≡ j = omega arith in
    rw (x, y) refl
only_split g (suc m) n i zero j u w = absurd (omega arith)
only_split g (suc m) n i (suc s) j u w = go (g i) (only_split g m n (suc i) s j (omega arith) (omega arith))
  where
    go : (b : Bool) → only g (range (suc i) s) ≡ only g (range (suc i) m) ++ only g (range j n)
        → keep b i (only g (range (suc i) s)) ≡ keep b i (only g (range (suc i) m)) ++ only g (range j n)
    go true h = ap (λ (l : List ℕ). i ∷ l) h
    go false h = h

module _ (g : ℕ → Bool) where
  pub tally_suc : (q : ℕ) → tally g (suc q) ≡ more (g q) (tally g q)
  unfolding tally only range
  tally_suc q =
      ap length (only_split g q 1 0 (suc q) q (omega arith) (omega arith)) ∙ length-append (only g (range 0 q)) (only g (range q 1)) ∙ go (g q)
    where
      go : (b : Bool) → length (only g (range 0 q)) + length (keep b q []) ≡ more b (length (only g (range 0 q)))
      go true = omega arith
      go false = omega arith

  tally_none : (q : ℕ) → ((x : ℕ) → x < q → g x ≡ false) → tally g q ≡ 0
  unfolding tally only range
  tally_none zero h = refl
  tally_none (suc q) h = tally_suc q ∙ rw (h q (omega arith)) (tally_none q (λ x l. h x (omega arith)))

  pub tally_le : (q n : ℕ) → q ≤ n → tally g q ≤ tally g n
  tally_le q zero h = let z : q ≡ 0 = omega arith in rw z (omega arith)
  tally_le q (suc n) h = go (ℕ_discrete q (suc n)) (tally_le q n)
    where
      up : (b : Bool) → tally g n ≤ more b (tally g n)
      up true = omega arith
      up false = omega arith

      go : Dec (q ≡ suc n) → (q ≤ n → tally g q ≤ tally g n) → tally g q ≤ tally g (suc n)
      go (yes e) ih = rw e (omega arith)
      go (no e) ih = let s = tally_suc n in omega (arith, ih (omega arith), up (g n), s)

  pub tally_bound : (q : ℕ) → tally g q ≤ q
  unfolding tally only range
  tally_bound zero = omega arith
  tally_bound (suc q) = rw (tally_suc q) (go (g q) (tally_bound q))
    where
      go : (b : Bool) → tally g q ≤ q → more b (tally g q) ≤ suc q
      go true h = omega arith
      go false h = omega arith

  pub tally_less : (x q : ℕ) → x < q → g x ≡ false → tally g q < q
  tally_less x zero h z = absurd (omega arith)
  tally_less x (suc q) h z = go (ℕ_discrete x q) (tally_less x q)
    where
      up : (b : Bool) → tally g q < q → more b (tally g q) < suc q
      up true l = omega arith
      up false l = omega arith

      go : Dec (x ≡ q) → (x < q → g x ≡ false → tally g q < q) → tally g (suc q) < suc q
      go (yes e) ih = let b = tally_bound q in rw (tally_suc q, sym (ap g e) ∙ z) (omega arith)
      go (no e) ih = rw (tally_suc q) (up (g q) (ih (omega arith) z))

pub tally_local : (g h : ℕ → Bool) (q : ℕ) → ((x : ℕ) → x < q → g x ≡ h x) → tally g q ≡ tally h q
unfolding tally only range
tally_local g h zero f = refl
tally_local g h (suc q) f = tally_suc g q ∙ rw (f q (omega arith), tally_local g h q (λ x l. f x (omega arith))) (sym (tally_suc h q))

module _ (t : Table) (wf : WellFormed t) (is_free : ℕ → ℕ → Bool) (tells : (e x : ℕ) → Tells (is_free e x) (Free t e x)) where
  -- so many of the smallest are those below q
  scope_below : (e q : ℕ) → q ≤ length t → scope t is_free (tally (is_free e) q) e ≡ only (is_free e) (range 0 q)
  unfolding tally only range
  scope_below e q h = go (length t) h
    where
      go : (n : ℕ) → q ≤ n → take (length (only (is_free e) (range 0 q))) (only (is_free e) (range 0 n)) ≡ only (is_free e) (range 0 q)
      go n l =
          rw (only_split (is_free e) q (n - q) 0 n q (omega arith) (omega arith))
          (take-append_seam (only (is_free e) (range 0 q)) (only (is_free e) (range q (n - q))))

  pub none_below : (e q : ℕ) → q ≤ suc e → tally (is_free e) q ≡ 0
  none_below e q h = tally_none (is_free e) q (λ x l. fails_holds (tells e x) (λ r. omega (arith, wf.free_above e x r)))

  -- in an operand of an entry that is no fixpoint
  pub operand_tally : (e a q : ℕ) (v : Shape) → shape t e ≡ v → Operand v a → (Fixpoint v → ⊥) → q ≤ length t
      → in_operand t is_free a (tally (is_free e) q) e ≡ tally (is_free a) q
  unfolding tally
  operand_tally e a q v u o n h =
      ap (λ (l : List ℕ). length (only (is_free a) l)) (scope_below e q h)
      ∙ ap length (only_only (is_free a) (is_free e) (range 0 q) (λ x r. (tells e x).holds (inside v u o (λ z. absurd (n z)) ((tells a x).says r))))

  pub step_tally : (e : ℕ) (m : Step) (a q : ℕ) → shape t e ≡ step m a → tally (is_free e) q ≡ tally (is_free a) q
  step_tally e m a q u = tally_local (is_free e) (is_free a) q
      (λ x _. same_test (tells e x) (tells_as (λ r. inside _ u refl absurd r) (λ r. free_by t u r) (tells a x)))

  pub body_tally : (e a : ℕ) (σ : Fix) → shape t e ≡ fix σ a → (q : ℕ) → e < q → tally (is_free a) q ≡ within (is_free a e) (tally (is_free e) q)
  unfolding tally
  body_tally e a σ u q h = ap length (body_below t wf is_free tells e a σ u q h) ∙ go (is_free a e)
    where
      go : (b : Bool) → length (keep b e (only (is_free e) (range 0 q))) ≡ within b (length (only (is_free e) (range 0 q)))
      go true = refl
      go false = refl

  -- a name has one free name, its own fixpoint
  module _ (e x : ℕ) (u : shape t e ≡ name x) where
    own_name : (y : ℕ) → is_free e y ≡ eqb y x
    own_name y = same_test (tells e y) (tells_as (λ q. rw q (named u)) (λ r. free_by t u r) (eqb_tells y x))

    name_low : (q : ℕ) → q ≤ x → tally (is_free e) q ≡ 0
    name_low q h = tally_none (is_free e) q (λ y l. own_name y ∙ ne_eqb y x (λ z. omega arith))

    pub name_tally : (q : ℕ) → x < q → tally (is_free e) q ≡ 1
    name_tally zero h = absurd (omega arith)
    name_tally (suc q) h = go (ℕ_discrete q x) (name_tally q)
      where
        go : Dec (q ≡ x) → (x < q → tally (is_free e) q ≡ 1) → tally (is_free e) (suc q) ≡ 1
        go (yes z) ih = tally_suc (is_free e) q ∙ rw (own_name q, eq-eqb q x z, name_low q (omega arith)) refl
        go (no z) ih = tally_suc (is_free e) q ∙ rw (own_name q, ne_eqb q x z) (ih (omega arith))
