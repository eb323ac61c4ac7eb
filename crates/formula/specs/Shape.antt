-- what an entry stands for: a leaf, two operands, a modal step, a fixpoint with its body, or a name
use Rattle.std.specs.Prelude.{◌≡◌, [], ◌∷◌, ◌⊎◌, ℕ, get_or}
use Rattle.formula.specs.Table.{Entry, Table, entry}

pub data Leaf : Type 0 where
  never always : Leaf
  letter negated : ℕ → Leaf
  deriving Discrete as Leaf-discrete

pub data Two : Type 0 where
  or and : Two
  deriving Discrete as Two-discrete

-- a modality with its action
pub data Step : Type 0 where
  diamond box : ℕ → Step
  deriving Discrete as Step-discrete

pub data Fix : Type 0 where
  mu nu : Fix
  deriving Discrete as Fix-discrete

-- an entry by its kind, with the numbers of its operands, its body or its fixpoint
pub data Shape : Type 0 where
  leaf : Leaf → Shape
  two : Two → ℕ → ℕ → Shape
  step : Step → ℕ → Shape
  fix : Fix → ℕ → Shape
  name : ℕ → Shape

-- the shapes in the order of the kinds 0 to 10 (ShapeLaws has the law of each); any other kind stands for false
unfoldable pub shape_of : Entry → Shape
shape_of r =
    get_or
    (leaf never ∷ leaf always ∷ leaf (letter r.a) ∷ leaf (negated r.a) ∷ two or r.a r.b ∷ two and r.a r.b
    ∷ step (diamond r.b) r.a ∷ step (box r.b) r.a ∷ fix mu r.a ∷ fix nu r.a ∷ name r.a ∷ [])
    r.kind (leaf never)

unfoldable pub shape : Table → ℕ → Shape
unfolding shape_of
shape t e = shape_of (entry t e)

-- c is an operand or the body
abbrev pub Operand : Shape → ℕ → Type 0
Operand (leaf l) c = ⊥
Operand (two o a b) c = (c ≡ a) ⊎ (c ≡ b)
Operand (step m a) c = c ≡ a
Operand (fix σ a) c = c ≡ a
Operand (name x) c = ⊥

abbrev pub Fixpoint : Shape → Type 0
Fixpoint (leaf l) = ⊥
Fixpoint (two o a b) = ⊥
Fixpoint (step m a) = ⊥
Fixpoint (fix σ a) = Unit {0}
Fixpoint (name x) = ⊥

abbrev pub NoName : Shape → Type 0
NoName (leaf l) = Unit {0}
NoName (two o a b) = Unit {0}
NoName (step m a) = Unit {0}
NoName (fix σ a) = Unit {0}
NoName (name x) = ⊥
