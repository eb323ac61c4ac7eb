-- the conditions of refusals 20, 71 and 21 to 23 at an entry
use Rattle.std.specs.Prelude.{◌≡◌, Bool, true, ◌⊎◌, ℕ, ◌<◌, ◌≤◌, length}
use Rattle.formula.specs.Table.{Table}
use Rattle.formula.specs.Shape.{Shape, leaf, two, step, fix, name, Leaf, never, always, letter, negated, Step, diamond, box, Fix, mu, nu, shape, Operand, Fixpoint}
use Rattle.conditions.specs.Free.{Free}

abbrev pub BadLeaf : Leaf → Type 0
BadLeaf never = ⊥
BadLeaf always = ⊥
BadLeaf (letter p) = 32 ≤ p
BadLeaf (negated p) = 32 ≤ p

abbrev pub Bad : Table → ℕ → Shape → Type 0
Bad t e (leaf l) = BadLeaf l
Bad t e (two o a b) = (e ≤ a) ⊎ (e ≤ b)
Bad t e (step m a) = e ≤ a
Bad t e (fix σ a) = e ≤ a
Bad t e (name x) = (x ≤ e) ⊎ (length t ≤ x) ⊎ (Fixpoint (shape t x) → ⊥)

-- 20: a letter of 32 or more, an operand or body not below, a name's fixpoint not above it, outside the table or none
abbrev pub OutOfBounds : Table → ℕ → Type 0
OutOfBounds t e = Bad t e (shape t e)

abbrev pub FarStep : Step → Type 0
FarStep (diamond n) = 16 ≤ n
FarStep (box n) = 16 ≤ n

abbrev pub FarShape : Shape → Type 0
FarShape (leaf l) = ⊥
FarShape (two o a b) = ⊥
FarShape (step m a) = FarStep m
FarShape (fix σ a) = ⊥
FarShape (name x) = ⊥

-- a box or diamond of an action above 15
abbrev pub FarAction : Table → ℕ → Type 0
FarAction t e = FarShape (shape t e)

-- 71: such an action, or a 0 that is written out, which a record does not show; z says of which entries it is
abbrev pub WrongAction : (ℕ → Bool) → Table → ℕ → Type 0
WrongAction z t e = FarAction t e ⊎ ((e < length t) × (z e ≡ true))

-- 21: a free name that does not lie above
abbrev pub NotAbove : Table → ℕ → Type 0
NotAbove t e = (x : ℕ) × Free t e x × (x ≤ e)

-- 22: a mu with a free nu, or a nu with a free mu
pub data Alternates (t : Table) (e : ℕ) : Type 0 where
  nu_in_mu : (x a b : ℕ) → shape t e ≡ fix mu a → Free t e x → shape t x ≡ fix nu b → Alternates t e
  mu_in_nu : (x a b : ℕ) → shape t e ≡ fix nu a → Free t e x → shape t x ≡ fix mu b → Alternates t e

-- not a box and not a diamond
abbrev pub NoStep : Shape → Type 0
NoStep (leaf l) = Unit {0}
NoStep (two o a b) = Unit {0}
NoStep (step m a) = ⊥
NoStep (fix σ a) = Unit {0}
NoStep (name x) = Unit {0}

-- a name of x is reached from e, down operands and bodies, never on from a name, through no box or diamond
pub data Unguarded (t : Table) : ℕ → ℕ → Type 0 where
  here : {e x : ℕ} → shape t e ≡ name x → Unguarded t e x
  down : {e c x : ℕ} (v : Shape) → shape t e ≡ v → Operand v c → NoStep v → Unguarded t c x → Unguarded t e x

-- 23: a fixpoint whose own name is so reached from its body
abbrev pub OwnUnguarded : Table → ℕ → Type 0
OwnUnguarded t e = (σ : Fix) × (a : ℕ) × (shape t e ≡ fix σ a) × Unguarded t a e
