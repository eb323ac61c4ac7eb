-- The form of an entry with k names bound: its k smallest free names are bound, the others written out. Those of them that are free in an
-- operand are the operand's own smallest, so a form is made of the operands' forms by how many are bound, and by no more of the way to them.
use Rattle.std.specs.Prelude.{◌≡◌, ◌≢◌, Bool, ℕ, suc, ◌<◌, ◌≤◌, take}
use Rattle.std.proofs.Math.Path.{refl, ap}
use Rattle.std.proofs.Common.{sym, ◌∙◌, arith, length-take, length-take-le}
use Rattle.std.proofs.Math.Bool.{true, false}
use mathlib.Core.List.{List, [], ◌∷◌}
use Rattle.std.proofs.Math.Nat.{min-le_right, suc-ne-zero}
use Rattle.std.proofs.Math.Decide.{ℕ_discrete}
use Rattle.std.proofs.Math.ListN.{length}
use Rattle.verdict.specs.Tests.{keep}
use Rattle.verdict.specs.Lists.{more}
use Rattle.verdict.specs.Tells.{Tells, tells_as, fails_holds, same_test}
use Rattle.formula.specs.Table.{Table}
use Rattle.formula.specs.Shape.{Shape, leaf, two, step, fix, name, Step, Fix, shape, Operand, Fixpoint, NoName}
use Rattle.formula.specs.TableLaws.{fix_in}
use Rattle.conditions.specs.Free.{Free, inside}
use Rattle.conditions.specs.WellFormed.{WellFormed}
use Rattle.conditions.specs.WellFormedLaws.{operand_below}
use Rattle.written.specs.Form.{Form, bound}
use Rattle.written.specs.Written.{clause, written}
use Rattle.written.specs.Binding.{named_bound}
use Rattle.written.specs.WrittenLaws.{below, spell_at}
use Rattle.written.proofs.WrittenLaws.{written_law}
use Rattle.numbering.specs.FreeNames.{free_by}
use Rattle.numbering.specs.Only.{only, range, All, only_passes, take_passes, passes_too, only_all, only_only, only_local, only_take}
use Rattle.numbering.specs.Only.{Distinct, only_distinct, take_distinct, range_distinct, fails_unbound, first_more}

-- one more, if the test passes
abbrev pub within : Bool → ℕ → ℕ
within true k = suc k
within false k = k

-- is_free e x: a test whether x is a free name of e
module _ (t : Table) (is_free : ℕ → ℕ → Bool) where
  -- the free names of an entry, rising
  abbrev pub names : ℕ → List ℕ
  names e = only (is_free e) (range 0 (length t))

  -- the k smallest, as fixpoints on the way to it: the smallest is the innermost
  abbrev pub scope : ℕ → ℕ → List ℕ
  scope k e = take k (names e)

  abbrev pub form : ℕ → ℕ → Form
  form k e = below t e (scope k e)

  pub record Fits (k e : ℕ) : Type 0 where
    pub inside : e < length t
    pub enough : k ≤ length (names e)

  -- how many of the k smallest free names of e are free in its operand a
  abbrev pub in_operand : ℕ → ℕ → ℕ → ℕ
  in_operand a k e = length (only (is_free a) (scope k e))

  -- the fixpoints of s that bind in a are its i smallest free names
  pub record Scoped (a : ℕ) (s : List ℕ) (i : ℕ) : Type 0 where
    pub distinct : Distinct s
    pub fits : Fits i a
    pub least : only (is_free a) s ≡ scope i a

module _ (t : Table) (wf : WellFormed t) (is_free : ℕ → ℕ → Bool) (tells : (e x : ℕ) → Tells (is_free e x) (Free t e x)) where
  abbrev Names : ℕ → List ℕ
  Names e = names t is_free e

  abbrev Scope : ℕ → ℕ → List ℕ
  Scope k e = scope t is_free k e

  -- with no name bound: the formula
  pub form_written : (e : ℕ) → form t is_free 0 e ≡ written t e
  form_written e = sym (written_law t wf e)

  scope_distinct : (k e : ℕ) → Distinct (Scope k e)
  scope_distinct k e = take_distinct k (Names e) (only_distinct (is_free e) _ (range_distinct 0 (length t)))

  pub scope_length : (k e : ℕ) → Fits t is_free k e → length (Scope k e) ≡ k
  scope_length k e F = length-take-le k (Names e) F.enough

  scope_free : (k e : ℕ) → All (is_free e) (Scope k e)
  scope_free k e = take_passes (is_free e) k (Names e) (only_passes (is_free e) _)

  -- a name has one free name, its own: where one is bound it is that
  pub bound_name : (k e x : ℕ) → shape t e ≡ name x → Fits t is_free (suc k) e → (k ≡ 0) × (form t is_free (suc k) e ≡ bound 0)
  unfolding clause
  bound_name k e x q E =
      go (Scope (suc k) e) refl (scope_free (suc k) e) (scope_distinct (suc k) e) (scope_length (suc k) e E)
    where
      own : (y : ℕ) → is_free e y ≡ true → y ≡ x
      own y h = free_by t q ((tells e y).says h)

      go : (l : List ℕ) → Scope (suc k) e ≡ l → All (is_free e) l → Distinct l → length l ≡ suc k → (k ≡ 0) × (form t is_free (suc k) e ≡ bound 0)
      go [] u a d n = absurd (omega arith)
      go (y ∷ []) u (more a _) d n =
          (omega arith, ap (below t e) u ∙ spell_at t wf (written t) e q (y ∷ []) ∙ named_bound (written t) (y ∷ []) x 0 (sym (own y a)))
      go (y ∷ z ∷ l) u (more a (more b _)) ((n, _), _) m = absurd (n (own y a ∙ sym (own z b)))

  -- and no other form is a bound name
  pub not_bound : (k f : ℕ) → NoName (shape t f) → form t is_free k f ≡ bound 0 → ⊥
  unfolding clause
  not_bound k f n h = go (shape t f) n (sym (spell_at t wf (written t) f refl (Scope k f)) ∙ h)
    where
      go : (w : Shape) → NoName w → clause (written t) (below t) f w (Scope k f) ≡ bound 0 → ⊥
      go (leaf l) n e = suc-ne-zero 0 cc
      go (two o a b) n e = suc-ne-zero 0 cc
      go (step m a) n e = suc-ne-zero 0 cc
      go (fix σ a) n e = suc-ne-zero 0 cc
      go (name x) n e = n

  -- an operand of an entry that is no fixpoint: free names of it are free names of the entry
  module _ (e a : ℕ) (v : Shape) (u : shape t e ≡ v) (o : Operand v a) (n : Fixpoint v → ⊥) (k : ℕ) where
    abbrev Inner : ℕ
    Inner = in_operand t is_free a k e

    free_too : (x : ℕ) → is_free a x ≡ true → is_free e x ≡ true
    free_too x h = (tells e x).holds (inside v u o (λ z. absurd (n z)) ((tells a x).says h))

    operand_least : only (is_free a) (Scope k e) ≡ Scope Inner a
    operand_least = only_take (is_free a) k (Names e) ∙ ap (take Inner) (only_only (is_free a) (is_free e) _ free_too)

    pub operand_scoped : Fits t is_free k e → Scoped t is_free a (Scope k e) Inner
    operand_scoped F = record {
      distinct = scope_distinct k e;
      fits = record {
        inside = omega (arith, operand_below t wf e a u o, F.inside);
        enough = omega (arith, ap length operand_least ∙ length-take Inner (Names a), min-le_right Inner (length (Names a)));
      };
      least = operand_least;
    }

  -- a modal operand has the free names of its entry
  module _ (e a : ℕ) (m : Step) (u : shape t e ≡ step m a) (k : ℕ) where
    step_names : Names a ≡ Names e
    step_names = only_local (is_free a) (is_free e) _ (λ x. same_test (tells a x) (tells_as (free_by t u) (λ r. inside _ u refl absurd r) (tells e x)))

    pub step_free : All (is_free a) (Scope k e)
    step_free = passes_too (is_free e) (is_free a) (Scope k e) (λ x h. (tells a x).holds (free_by t u ((tells e x).says h))) (scope_free k e)

    pub step_scoped : Fits t is_free k e → Scoped t is_free a (Scope k e) k
    step_scoped F = record {
      distinct = scope_distinct k e;
      fits = record { inside = omega (arith, operand_below t wf e a u refl, F.inside); enough = rw step_names F.enough };
      least = only_all (is_free a) (Scope k e) step_free ∙ ap (take k) (sym step_names);
    }

  -- the body of a fixpoint has one name more if the fixpoint's own occurs: the smallest
  module _ (e a : ℕ) (σ : Fix) (u : shape t e ≡ fix σ a) where
    other_names : (x : ℕ) → x ≢ e → is_free a x ≡ is_free e x
    other_names x n = same_test (tells a x) (tells_as (λ r. (free_by t u r).1) (λ r. inside _ u refl (λ _. n) r) (tells e x))

    not_own : is_free e e ≡ false
    not_own = fails_holds (tells e e) (λ r. omega (arith, wf.free_above e e r))

    -- of the names below q
    pub body_below : (q : ℕ) → e < q → only (is_free a) (range 0 q) ≡ keep (is_free a e) e (only (is_free e) (range 0 q))
    body_below q past = go (is_free a e) refl
      where
        lower : (x : ℕ) → x < e → is_free a x ≡ false
        lower x h = fails_holds (tells a x) (λ r. let z = wf.free_above e x (inside _ u refl (λ _ q. omega arith) r) in omega arith)

        all : is_free a e ≡ false → (x : ℕ) → Dec (x ≡ e) → is_free a x ≡ is_free e x
        all z x (yes q) = rw q (z ∙ sym not_own)
        all z x (no n) = other_names x n

        go : (b : Bool) → is_free a e ≡ b → only (is_free a) (range 0 q) ≡ keep b e (only (is_free e) (range 0 q))
        go true z = first_more (is_free a) (is_free e) e z not_own lower other_names q 0 (omega arith) (omega arith)
        go false z = only_local (is_free a) (is_free e) _ (λ x. all z x (ℕ_discrete x e))

    body_names : Names a ≡ keep (is_free a e) e (Names e)
    body_names = body_below (length t) (fix_in t e a σ u)

    module _ (k : ℕ) where
      -- names bound from further out are free in the body
      pub body_free : All (is_free a) (Scope k e)
      body_free = passes_too (is_free e) (is_free a) (Scope k e) (λ x h. (tells a x).holds (free_by t u ((tells e x).says h)).1) (scope_free k e)

      pub body_scoped : Fits t is_free k e → Scoped t is_free a (e ∷ Scope k e) (within (is_free a e) k)
      unfolding only
      body_scoped F = record {
        distinct = (fails_unbound (is_free e) (Scope k e) e (scope_free k e) not_own, scope_distinct k e);
        fits = record { inside = omega (arith, operand_below t wf e a u refl, F.inside); enough = rw body_names (enough (is_free a e)) };
        least =
            ap (λ (m : List ℕ). keep (is_free a e) e m) (only_all (is_free a) (Scope k e) body_free)
            ∙ first (is_free a e) ∙ ap (take (within (is_free a e) k)) (sym body_names);
      }
        where
          enough : (b : Bool) → within b k ≤ length (keep b e (Names e))
          enough true = omega (arith, F.enough)
          enough false = F.enough

          first : (b : Bool) → keep b e (Scope k e) ≡ take (within b k) (keep b e (Names e))
          first true = refl
          first false = refl
