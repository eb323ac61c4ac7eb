-- refusals 21, 22 and 23 at an entry, from sets of names in words
use Rattle.std.specs.Prelude.{◌≡◌, List, Bool, ◌&&◌, ℕ, ◌+◌, ◌<◌, ◌≤◌, eqb, ltb, length, get_or}
use Rattle.std.proofs.Math.Path.{refl, ap, sym}
use Rattle.std.proofs.Common.{◌∙◌, true≢false}
use Rattle.std.proofs.Math.Bool.{true, false}
use native.Mathlib.Omega.{arith}
use Rattle.std.proofs.Math.Decide.{dec_lt, ℕ_discrete}
use borrow.Author.Tests.{eq-eqb, ne_eqb, lt-ltb, le-ltb, eqb-true}
use Rattle.verdict.specs.Tells.{Tells, tells_as, tells_self, and_tells, ltb_tells, same_test}
use Rattle.verdict.specs.Tests.{choose}
use Rattle.formula.specs.Kind
use Rattle.formula.specs.Table.{Table}
use Rattle.formula.specs.Shape.{Shape, leaf, two, step, fix, name, mu, nu, never, shape_of, shape}
use Rattle.formula.specs.TableLaws.{past_end, fix_in}
use Rattle.formula.specs.FieldLaws.{within_tells}
use Rattle.formula.specs.Fields.{is_fixpoint_lem}
use Rattle.formula.specs.Plain.{table_of, table_of_length}
use Rattle.conditions.specs.Rows.{Row, has, up_to, meets}
use Rattle.conditions.specs.RowLaws.{has_up_to, meets_tells}
use Rattle.conditions.specs.Judge.{is_fix, is_mu, is_nu, frees, opens, marks, alternates, own_open, low, mixed, loose}
use Rattle.conditions.specs.TestLaws.{free_set, open_set, marks_has, mus_tells, nus_tells}
use Rattle.conditions.specs.KindShapes.{plain_shape, fix_test, mu_test, nu_test, fix_kind}
use Rattle.operands.specs.OperandBounds.{plain_shape_lem}
use Rattle.name_sets.specs.NameSets.{holds, Marks, Shared}
use Rattle.name_sets.specs.MarksBelow.{MarksBelow}
use Rattle.name_sets.specs.declared.Names.{Names}

abbrev pub mixed_at : Table → ℕ → Bool
mixed_at t e = mixed t (frees t) (marks is_mu t) (marks is_nu t) e

-- 21, 22 or 23, the first that entry e earns, or 0
unfoldable pub fault_at : Table → ℕ → ℕ
unfolding low mixed loose frees opens marks
fault_at t e = choose (low (frees t) e) 21 (choose (mixed_at t e) 22 (choose (loose t (opens t) e) 23 0))

-- the sets that a test of entry e of kind k and fields a and b goes by: its free names, its body's open names, the entries up to e,
-- the mu entries and the nu entries
pub record Seen (t : Table) (e k a b : ℕ) (free body passed mus nus : Names) : Type 0 where
  pub small : length t ≤ 256
  pub inside : e < length t
  pub shaped : shape t e ≡ plain_shape k a b
  pub free_row_lem : Marks free (has (free_set t e))
  pub body_row : is_fixpoint_lem k ≡ true → Marks body (has (open_set t a))
  pub up_to_lem : MarksBelow passed (e + 1) (λ n. true)
  pub mu_row : Marks mus (has (marks is_mu t))
  pub nu_row : Marks nus (has (marks is_nu t))

-- the mu entries for a nu, the nu entries for a mu
abbrev pub pick_names : Bool → Names → Names → Names
pick_names true n m = n
pick_names false n m = m

abbrev pub opposite_of : ℕ → Names → Names → Names
opposite_of k mus nus = pick_names (eqb k Kind.MU) nus mus

-- a name in common is one in the rows, if the second row has none from 256 on
meets_test : {p : Bool} (n m : Names) (R S : Row) → Marks n (has R) → Marks m (has S) → ((x : ℕ) → has S x ≡ true → x < 256) → Tells p (Shared n m) → meets R S ≡ p
meets_test n m R S f g h s =
    same_test (meets_tells R S)
    (tells_as
    (λ (x, l, a, b). (x, sym (f x l) ∙ a, sym (g x l) ∙ b))
    (λ (x, a, b). (x, h x b, f x (h x b) ∙ a, g x (h x b) ∙ b))
    s)

up_to_has : (e n : ℕ) → (ltb n (e + 1) && true) ≡ has (up_to e) n
up_to_has e n = same_test (tells_as (λ (h, k). omega arith) (λ h. (omega arith, refl)) (and_tells (ltb_tells n (e + 1)) (tells_self true))) (has_up_to e n)

module _ {t : Table} {e k a b : ℕ} {free body passed mus nus : Names} (s : Seen t e k a b free body passed mus nus) where
  low_test : {p : Bool} → Tells p (Shared free passed) → low (frees t) e ≡ p
  unfolding low
  low_test z =
      meets_test free passed (free_set t e) (up_to e) s.free_row_lem (λ n h. s.up_to_lem n h ∙ up_to_has e n)
      (λ x h. omega (arith, (has_up_to e x).says h, s.inside, s.small)) z

  mixed_shape : (v : Shape) → plain_shape k a b ≡ v → mixed_at t e ≡ alternates (free_set t e) (marks is_mu t) (marks is_nu t) v
  unfolding mixed
  mixed_shape v q = ap (alternates (free_set t e) (marks is_mu t) (marks is_nu t)) (s.shaped ∙ q)

  loose_shape : (v : Shape) → plain_shape k a b ≡ v → loose t (opens t) e ≡ own_open (opens t) e v
  unfolding loose
  loose_shape v q = ap (own_open (opens t) e) (s.shaped ∙ q)

  mixed_other : is_fixpoint_lem k ≡ false → mixed_at t e ≡ false
  unfolding is_fix alternates
  mixed_other h = mixed_shape (plain_shape k a b) refl ∙ go (plain_shape k a b) (fix_test a b k ∙ h)
    where
      go : (v : Shape) → is_fix v ≡ false → alternates (free_set t e) (marks is_mu t) (marks is_nu t) v ≡ false
      go (leaf l) q = refl
      go (two o a b) q = refl
      go (step m a) q = refl
      go (fix σ a) q = absurd (true≢false q)
      go (name x) q = refl

  loose_other : is_fixpoint_lem k ≡ false → loose t (opens t) e ≡ false
  unfolding is_fix own_open
  loose_other h = loose_shape (plain_shape k a b) refl ∙ go (plain_shape k a b) (fix_test a b k ∙ h)
    where
      go : (v : Shape) → is_fix v ≡ false → own_open (opens t) e v ≡ false
      go (leaf l) q = refl
      go (two o a b) q = refl
      go (step m a) q = refl
      go (fix σ a) q = absurd (true≢false q)
      go (name x) q = refl

  mixed_test : {p : Bool} → is_fixpoint_lem k ≡ true → Tells p (Shared free (opposite_of k mus nus)) → mixed_at t e ≡ p
  unfolding alternates shape_of
  mixed_test {p} fixpoint z = go (ℕ_discrete k Kind.MU)
    where
      go : Dec (k ≡ Kind.MU) → mixed_at t e ≡ p
      go (yes q) =
          mixed_shape (fix mu a) (rw q refl)
          ∙ meets_test free nus (free_set t e) (marks is_nu t) s.free_row_lem s.nu_row
          (λ x h. let (c, r) = (nus_tells t x).says h in omega (arith, fix_in t x c nu r, s.small))
          (rw (eq-eqb k Kind.MU q) at z)
      go (no q) =
          let (l, m) = (within_tells Kind.MU Kind.NU k).says fixpoint in
          let r : k ≡ Kind.NU = omega arith in
          mixed_shape (fix nu a) (rw r refl)
          ∙ meets_test free mus (free_set t e) (marks is_mu t) s.free_row_lem s.mu_row
          (λ x h. let (c, r) = (mus_tells t x).says h in omega (arith, fix_in t x c mu r, s.small))
          (rw (ne_eqb k Kind.MU q) at z)

  loose_test : {p : Bool} (own : Names) → is_fixpoint_lem k ≡ true → Marks own (λ n. eqb n e) → Tells p (Shared body own) → loose t (opens t) e ≡ p
  unfolding own_open
  loose_test own fixpoint o z =
      let (l, m) = (within_tells Kind.MU Kind.NU k).says fixpoint in
      let (σ, q) = fix_kind k a b l m in
      let i : e < 256 = omega (arith, s.inside, s.small) in
      loose_shape (fix σ a) q
      ∙ same_test (tells_self (has (open_set t a) e))
      (tells_as
      (λ (x, j, h, g). sym (s.body_row fixpoint e i) ∙ at x (eqb-true x e (sym (o x j) ∙ g)) h)
      (λ h. (e, i, s.body_row fixpoint e i ∙ h, o e i ∙ eq-eqb e e refl))
      z)
    where
      at : (x : ℕ) → x ≡ e → holds body x ≡ true → holds body e ≡ true
      at x q h = rw q at h

  -- the answers of the code: a free name up to e; else none of 22 and 23 but at a fixpoint; else a free name that is an opposite
  -- fixpoint; else its own name, open in its body
  module _ {p : Bool} (l : Tells p (Shared free passed)) where
    pub earns_21 : p ≡ true → 21 ≡ fault_at t e
    unfolding fault_at
    earns_21 u = rw (low_test l ∙ u) refl

    module _ (u : p ≡ false) where
      pub earns_none : is_fixpoint_lem k ≡ false → 0 ≡ fault_at t e
      unfolding fault_at
      earns_none h = rw (low_test l ∙ u, mixed_other h, loose_other h) refl

      module _ (fixpoint : is_fixpoint_lem k ≡ true) {q : Bool} (m : Tells q (Shared free (opposite_of k mus nus))) where
        pub earns_22 : q ≡ true → 22 ≡ fault_at t e
        unfolding fault_at
        earns_22 v = rw (low_test l ∙ u, mixed_test fixpoint m ∙ v) refl

        module _ (v : q ≡ false) (own : Names) (o : Marks own (λ n. eqb n e)) {r : Bool} (n : Tells r (Shared body own)) where
          pub earns_23 : r ≡ true → 23 ≡ fault_at t e
          unfolding fault_at
          earns_23 w = rw (low_test l ∙ u, mixed_test fixpoint m ∙ v, loose_test own fixpoint o n ∙ w) refl

          pub earns_nothing : r ≡ false → 0 ≡ fault_at t e
          unfolding fault_at
          earns_nothing w = rw (low_test l ∙ u, mixed_test fixpoint m ∙ v, loose_test own fixpoint o n ∙ w) refl

-- the rows of the mu entries and of the nu entries, from the kinds
kind_marks : (ks xs ys : List ℕ) (n j : ℕ) (g : Shape → Bool) → g (leaf never) ≡ false → ((a b k : ℕ) → g (plain_shape k a b) ≡ eqb k j)
    → (x : ℕ) → (ltb x n && eqb (get_or ks x 0) j) ≡ has (marks g (table_of ks xs ys n)) x
kind_marks ks xs ys n j g z law x = go (dec_lt x n) ∙ sym (marks_has g z (table_of ks xs ys n) x)
  where
    go : Dec (x < n) → (ltb x n && eqb (get_or ks x 0) j) ≡ g (shape (table_of ks xs ys n) x)
    go (yes h) = rw (lt-ltb x n h, plain_shape_lem ks xs ys n x h) (sym (law (get_or xs x 0) (get_or ys x 0) (get_or ks x 0)))
    go (no h) = rw (le-ltb x n (omega arith), past_end (table_of ks xs ys n) x (omega (arith, table_of_length ks xs ys n))) (sym z)

module _ (ks xs ys : List ℕ) (n : ℕ) (m : Names) where
  pub mu_marks : Marks m (λ x. ltb x n && eqb (get_or ks x 0) Kind.MU) → Marks m (has (marks is_mu (table_of ks xs ys n)))
  mu_marks f x h = f x h ∙ kind_marks ks xs ys n Kind.MU is_mu refl mu_test x

  pub nu_marks : Marks m (λ x. ltb x n && eqb (get_or ks x 0) Kind.NU) → Marks m (has (marks is_nu (table_of ks xs ys n)))
  nu_marks f x h = f x h ∙ kind_marks ks xs ys n Kind.NU is_nu refl nu_test x
