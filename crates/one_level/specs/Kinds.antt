-- a shape's kind number and fields, as the columns of a table have them, and a shape with other fields
use Rattle.std.specs.Prelude.{◌≡◌, ℕ, ◌≤◌}
use Rattle.std.proofs.Math.Path.{refl}
use Rattle.std.proofs.Common.{arith}
use Rattle.formula.specs.Kind
use Rattle.formula.specs.Shape.{Shape, leaf, two, step, fix, name, never, always, letter, negated, Two, or, and, Step, diamond, box, Fix, mu, nu, shape_of}
pub use Rattle.formula.specs.ShapeLaws.{kind_of}
use Rattle.conditions.specs.KindShapes.{plain_shape, by_kind}

-- field A, 0 where a shape has none
abbrev pub first_of : Shape → ℕ
first_of (leaf never) = 0
first_of (leaf always) = 0
first_of (leaf (letter p)) = p
first_of (leaf (negated p)) = p
first_of (two o a b) = a
first_of (step m a) = a
first_of (fix σ a) = a
first_of (name x) = x

-- the action of a modality, and the modality with another
abbrev pub action_of : Step → ℕ
action_of (diamond n) = n
action_of (box n) = n

abbrev pub acting : Step → ℕ → Step
acting (diamond n) d = diamond d
acting (box n) d = box d

pub acting_own : (m : Step) → acting m (action_of m) ≡ m
acting_own (diamond n) = refl
acting_own (box n) = refl

-- field B, which is the second operand or the action, 0 where a shape has none
abbrev pub second_of : Shape → ℕ
second_of (leaf l) = 0
second_of (two o a b) = b
second_of (step m a) = action_of m
second_of (fix σ a) = 0
second_of (name x) = 0

-- of the same kind, with fields c and d
abbrev pub remake : Shape → ℕ → ℕ → Shape
remake (leaf never) c d = leaf never
remake (leaf always) c d = leaf always
remake (leaf (letter p)) c d = leaf (letter c)
remake (leaf (negated p)) c d = leaf (negated c)
remake (two o a b) c d = two o c d
remake (step m a) c d = step (acting m d) c
remake (fix σ a) c d = fix σ c
remake (name x) c d = name c

-- an entry's shape has its kind and fields
module _ (a b : ℕ) where
  pub kind_back : (k : ℕ) → k ≤ Kind.NAME → kind_of (plain_shape k a b) ≡ k
  unfolding shape_of
  kind_back = by_kind (λ k. k ≤ Kind.NAME → kind_of (plain_shape k a b) ≡ k)
      (λ h. refl) (λ h. refl) (λ h. refl) (λ h. refl) (λ h. refl) (λ h. refl) (λ h. refl) (λ h. refl) (λ h. refl) (λ h. refl) (λ h. refl)
      (λ k h. absurd (omega arith))

  pub first_back : (k : ℕ) → Kind.LETTER ≤ k → k ≤ Kind.NAME → first_of (plain_shape k a b) ≡ a
  unfolding shape_of
  first_back = by_kind (λ k. Kind.LETTER ≤ k → k ≤ Kind.NAME → first_of (plain_shape k a b) ≡ a)
      (λ h l. absurd (omega arith)) (λ h l. absurd (omega arith))
      (λ h l. refl) (λ h l. refl) (λ h l. refl) (λ h l. refl) (λ h l. refl) (λ h l. refl) (λ h l. refl) (λ h l. refl) (λ h l. refl)
      (λ k h l. absurd (omega arith))

  pub second_back : (k : ℕ) → Kind.OR ≤ k → k ≤ Kind.BOX → second_of (plain_shape k a b) ≡ b
  unfolding shape_of
  second_back = by_kind (λ k. Kind.OR ≤ k → k ≤ Kind.BOX → second_of (plain_shape k a b) ≡ b)
      (λ h l. absurd (omega arith)) (λ h l. absurd (omega arith)) (λ h l. absurd (omega arith)) (λ h l. absurd (omega arith))
      (λ h l. refl) (λ h l. refl) (λ h l. refl) (λ h l. refl)
      (λ h l. absurd (omega arith)) (λ h l. absurd (omega arith)) (λ h l. absurd (omega arith))
      (λ k h l. absurd (omega arith))

  pub remake_plain : (c d k : ℕ) → remake (plain_shape k a b) c d ≡ plain_shape k c d
  unfolding shape_of
  remake_plain c d = by_kind (λ k. remake (plain_shape k a b) c d ≡ plain_shape k c d)
      refl refl refl refl refl refl refl refl refl refl refl (λ k. refl)

-- the kinds of each group of shapes

pub kind_two : (o : Two) (a b : ℕ) → (Kind.OR ≤ kind_of (two o a b)) × (kind_of (two o a b) ≤ Kind.AND)
kind_two or a b = (omega arith, omega arith)
kind_two and a b = (omega arith, omega arith)

pub kind_step : (m : Step) (a : ℕ) → (Kind.DIAMOND ≤ kind_of (step m a)) × (kind_of (step m a) ≤ Kind.BOX)
kind_step (diamond n) a = (omega arith, omega arith)
kind_step (box n) a = (omega arith, omega arith)

pub kind_fix : (σ : Fix) (a : ℕ) → (Kind.MU ≤ kind_of (fix σ a)) × (kind_of (fix σ a) ≤ Kind.NU)
kind_fix mu a = (omega arith, omega arith)
kind_fix nu a = (omega arith, omega arith)

pub kind_same_two : (o : Two) (a b c d : ℕ) → kind_of (two o a b) ≡ kind_of (two o c d)
kind_same_two or a b c d = refl
kind_same_two and a b c d = refl

pub kind_same_step : (m : Step) (a c : ℕ) → kind_of (step m a) ≡ kind_of (step m c)
kind_same_step (diamond n) a c = refl
kind_same_step (box n) a c = refl

pub kind_same_fix : (σ : Fix) (a c : ℕ) → kind_of (fix σ a) ≡ kind_of (fix σ c)
kind_same_fix mu a c = refl
kind_same_fix nu a c = refl
