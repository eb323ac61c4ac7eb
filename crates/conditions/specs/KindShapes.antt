-- what an entry stands for, by the number of its kind
use Rattle.std.specs.Prelude.{◌≡◌, ◌⊎◌, Bool, true, false, ℕ, zero, suc, ◌+◌, ◌<◌, ◌≤◌}
use Rattle.std.proofs.Math.Path.{refl}
use Rattle.std.proofs.Common.{sym, inl, inr, arith, le-leb, ne_eqb}
use Rattle.std.proofs.Math.Decide.{dec_lt, ℕ_discrete}
use Rattle.std.proofs.Math.Dec.{eqb, leb}
use Rattle.std.proofs.lemmas.Bool.{lt-leb}
use Rattle.formula.specs.Kind
use Rattle.formula.specs.Fields.{is_fixpoint_lem}
use Rattle.formula.specs.Shape.{Shape, leaf, two, step, fix, name, Leaf, never, always, letter, negated, Two, or, and, Step, diamond, box, Fix, mu, nu, shape_of}
use Rattle.conditions.specs.Judge.{is_fix, bad_leaf, is_mu, is_nu}

-- an entry of kind k with fields a and b
abbrev pub plain_shape : ℕ → ℕ → ℕ → Shape
plain_shape k a b = shape_of (record { kind = k; a = a; b = b })

abbrev pub is_name : Shape → Bool
is_name (leaf l) = false
is_name (two o a b) = false
is_name (step m a) = false
is_name (fix σ a) = false
is_name (name x) = true

abbrev pub past : ℕ → ℕ
past k = suc (suc (suc (suc (suc (suc (suc (suc (suc (suc (suc k))))))))))

-- kind by kind, and past the last
pub by_kind : (P : ℕ → Type 0) → P 0 → P 1 → P 2 → P 3 → P 4 → P 5 → P 6 → P 7 → P 8 → P 9 → P 10 → ((k : ℕ) → P (past k)) → (k : ℕ) → P k
by_kind P a b c d e f g h i j l m zero = a
by_kind P a b c d e f g h i j l m (suc zero) = b
by_kind P a b c d e f g h i j l m (suc (suc zero)) = c
by_kind P a b c d e f g h i j l m (suc (suc (suc zero))) = d
by_kind P a b c d e f g h i j l m (suc (suc (suc (suc zero)))) = e
by_kind P a b c d e f g h i j l m (suc (suc (suc (suc (suc zero))))) = f
by_kind P a b c d e f g h i j l m (suc (suc (suc (suc (suc (suc zero)))))) = g
by_kind P a b c d e f g h i j l m (suc (suc (suc (suc (suc (suc (suc zero))))))) = h
by_kind P a b c d e f g h i j l m (suc (suc (suc (suc (suc (suc (suc (suc zero)))))))) = i
by_kind P a b c d e f g h i j l m (suc (suc (suc (suc (suc (suc (suc (suc (suc zero))))))))) = j
by_kind P a b c d e f g h i j l m (suc (suc (suc (suc (suc (suc (suc (suc (suc (suc zero)))))))))) = l
by_kind P a b c d e f g h i j l m (suc (suc (suc (suc (suc (suc (suc (suc (suc (suc (suc k))))))))))) = m k

not_past : {A : Type 0} (k : ℕ) → k ≤ Kind.NAME → Kind.NAME < k → A
not_past k l h = absurd (omega arith)

past_kind : (k a b : ℕ) → Kind.NAME < k → plain_shape k a b ≡ leaf never
unfolding shape_of
past_kind k a b =
    by_kind (λ k. Kind.NAME < k → plain_shape k a b ≡ leaf never)
    (not_past 0 (omega arith)) (not_past 1 (omega arith)) (not_past 2 (omega arith)) (not_past 3 (omega arith)) (not_past 4 (omega arith)) (not_past 5 (omega arith))
    (not_past 6 (omega arith)) (not_past 7 (omega arith)) (not_past 8 (omega arith)) (not_past 9 (omega arith)) (not_past 10 (omega arith)) (λ k h. refl)
    k

fixpoint_past : (k : ℕ) → Kind.NAME < k → false ≡ is_fixpoint_lem k
fixpoint_past k h = rw (le-leb Kind.MU k (omega arith), lt-leb k Kind.NU (omega arith)) refl

kind_past : (j k : ℕ) → j ≤ Kind.NAME → Kind.NAME < k → false ≡ eqb k j
kind_past j k l h = sym (ne_eqb k j (λ q. omega arith))

-- tests of the shape as tests of the number
module _ (a b : ℕ) where
  pub fix_test : (k : ℕ) → is_fix (plain_shape k a b) ≡ is_fixpoint_lem k
  unfolding shape_of is_fix
  fix_test = by_kind (λ k. is_fix (plain_shape k a b) ≡ is_fixpoint_lem k) refl refl refl refl refl refl refl refl refl refl refl (λ k. fixpoint_past (past k) (omega arith))

  pub mu_test : (k : ℕ) → is_mu (plain_shape k a b) ≡ eqb k Kind.MU
  unfolding shape_of
  mu_test = by_kind (λ k. is_mu (plain_shape k a b) ≡ eqb k Kind.MU) refl refl refl refl refl refl refl refl refl refl refl (λ k. kind_past Kind.MU (past k) (omega arith) (omega arith))

  pub nu_test : (k : ℕ) → is_nu (plain_shape k a b) ≡ eqb k Kind.NU
  unfolding shape_of
  nu_test = by_kind (λ k. is_nu (plain_shape k a b) ≡ eqb k Kind.NU) refl refl refl refl refl refl refl refl refl refl refl (λ k. kind_past Kind.NU (past k) (omega arith) (omega arith))

  pub name_test : (k : ℕ) → is_name (plain_shape k a b) ≡ eqb k Kind.NAME
  unfolding shape_of
  name_test = by_kind (λ k. is_name (plain_shape k a b) ≡ eqb k Kind.NAME) refl refl refl refl refl refl refl refl refl refl refl (λ k. kind_past Kind.NAME (past k) (omega arith) (omega arith))

one_of_two : (P : ℕ → Type 0) (n k : ℕ) → n ≤ k → k ≤ n + 1 → P n → P (n + 1) → P k
one_of_two P n k l m p q = go (ℕ_discrete k n)
  where
    go : Dec (k ≡ n) → P k
    go (yes e) = rw e p
    go (no e) = let s : k ≡ n + 1 = omega arith in rw s q

module _ (k a b : ℕ) where
  pub letter_kind : Kind.LETTER ≤ k → k ≤ Kind.NEGATED → (l : Leaf) × (plain_shape k a b ≡ leaf l) × (bad_leaf l ≡ leb 32 a)
  unfolding shape_of bad_leaf
  letter_kind l m =
      one_of_two (λ k. (l : Leaf) × (plain_shape k a b ≡ leaf l) × (bad_leaf l ≡ leb 32 a)) Kind.LETTER k l m
      (letter a, refl, refl) (negated a, refl, refl)

  pub two_kind : Kind.OR ≤ k → k ≤ Kind.AND → (o : Two) × (plain_shape k a b ≡ two o a b)
  unfolding shape_of
  two_kind l m = one_of_two (λ k. (o : Two) × (plain_shape k a b ≡ two o a b)) Kind.OR k l m (or, refl) (and, refl)

  pub step_kind : Kind.DIAMOND ≤ k → k ≤ Kind.BOX → (m : Step) × (plain_shape k a b ≡ step m a)
  unfolding shape_of
  step_kind l m = one_of_two (λ k. (m : Step) × (plain_shape k a b ≡ step m a)) Kind.DIAMOND k l m (diamond b, refl) (box b, refl)

  pub fix_kind : Kind.MU ≤ k → k ≤ Kind.NU → (σ : Fix) × (plain_shape k a b ≡ fix σ a)
  unfolding shape_of
  fix_kind l m = one_of_two (λ k. (σ : Fix) × (plain_shape k a b ≡ fix σ a)) Kind.MU k l m (mu, refl) (nu, refl)

  pub name_kind : k ≡ Kind.NAME → plain_shape k a b ≡ name a
  unfolding shape_of
  name_kind q = rw q refl

  -- false, true, and any number that is no kind
  pub bare_kind : (k < Kind.LETTER) ⊎ (Kind.NAME < k) → (l : Leaf) × (plain_shape k a b ≡ leaf l) × (bad_leaf l ≡ false)
  unfolding shape_of bad_leaf
  bare_kind (inl h) =
      one_of_two (λ k. (l : Leaf) × (plain_shape k a b ≡ leaf l) × (bad_leaf l ≡ false)) Kind.FALSE k (omega arith) (omega arith)
      (never, refl, refl) (always, refl, refl)
  bare_kind (inr h) = (never, past_kind k a b h, refl)

  pub leaf_kind : (k < Kind.OR) ⊎ (Kind.NAME < k) → (l : Leaf) × (plain_shape k a b ≡ leaf l)
  leaf_kind (inl h) = go (dec_lt k Kind.LETTER)
    where
      go : Dec (k < Kind.LETTER) → (l : Leaf) × (plain_shape k a b ≡ leaf l)
      go (yes l) = let (v, q, z) = bare_kind (inl l) in (v, q)
      go (no l) = let (v, q, z) = letter_kind (omega arith) (omega arith) in (v, q)
  leaf_kind (inr h) = let (v, q, z) = bare_kind (inr h) in (v, q)
