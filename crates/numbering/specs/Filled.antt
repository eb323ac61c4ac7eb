-- A table of numbers for forms, as far as it is filled: whatever the order in which it was, numbers are equal just where the entries are of
-- one shape and the numbers of their operands are equal.
use Rattle.std.specs.Prelude.{◌≡◌, ◌↔◌, Bool, List, ℕ}
use Rattle.formula.specs.Table.{Table}
use Rattle.formula.specs.Shape.{Shape, leaf, two, step, fix, name, shape, NoName}
use Rattle.numbering.specs.Only.{marks}
use Rattle.numbering.specs.Forms.{within, scope, in_operand}

-- one for each number k of names bound and each entry e
abbrev pub Numbers : Type 0
Numbers = ℕ → ℕ → ℕ

module _ (t : Table) (is_free : ℕ → ℕ → Bool) where
  -- which of the k names bound in e, by their places, are free in its operand a
  abbrev pub places : ℕ → ℕ → ℕ → List Bool
  places a k e = marks (is_free a) (scope t is_free k e)

  -- v and w, the shapes of e and f with k names bound in each, are the same one level down: the operands have the same names bound and the
  -- same numbers
  abbrev pub Level : Numbers → ℕ → ℕ → ℕ → Shape → Shape → Type 0
  Level rep k e f (leaf l) w = w ≡ leaf l
  Level rep k e f (two o a b) w =
      (c : ℕ) × (d : ℕ) × (w ≡ two o c d)
      × (places a k e ≡ places c k f) × (places b k e ≡ places d k f)
      × (rep (in_operand t is_free a k e) a ≡ rep (in_operand t is_free a k e) c)
      × (rep (in_operand t is_free b k e) b ≡ rep (in_operand t is_free b k e) d)
  Level rep k e f (step m a) w = (c : ℕ) × (w ≡ step m c) × (rep k a ≡ rep k c)
  Level rep k e f (fix σ a) w =
      (c : ℕ) × (w ≡ fix σ c) × (is_free a e ≡ is_free c f) × (rep (within (is_free a e) k) a ≡ rep (within (is_free a e) k) c)
  Level rep k e f (name x) w = ⊥

  abbrev pub Alike : Numbers → ℕ → ℕ → ℕ → Type 0
  Alike rep k e f = Level rep k e f (shape t e) (shape t f)

  -- the operands' numbers stand
  abbrev pub Operands : (ℕ → ℕ → Type 0) → ℕ → ℕ → Shape → Type 0
  Operands on k e (leaf l) = Unit {0}
  Operands on k e (two o a b) = on (in_operand t is_free a k e) a × on (in_operand t is_free b k e) b
  Operands on k e (step m a) = on k a
  Operands on k e (fix σ a) = on (within (is_free a e) k) a
  Operands on k e (name x) = Unit {0}

  -- what holds of the numbers that stand
  pub record Filled (rep : Numbers) (on : ℕ → ℕ → Type 0) : Type 0 where
    pub closed : (k e : ℕ) → on k e → Operands on k e (shape t e)
    pub level : (k e f : ℕ) → on k e → on k f → NoName (shape t e) → NoName (shape t f) → (rep k e ≡ rep k f) ↔ Alike rep k e f
    -- a name that is free has its fixpoint's number
    pub free : (e x : ℕ) → on 0 e → shape t e ≡ name x → on 0 x × (rep 0 e ≡ rep 0 x)
    -- names that are bound have one number, and nothing else has it
    pub bounds : (e f x y : ℕ) → on 1 e → on 1 f → shape t e ≡ name x → shape t f ≡ name y → rep 1 e ≡ rep 1 f
    pub bound_apart : (e f x : ℕ) → on 1 e → on 1 f → shape t e ≡ name x → NoName (shape t f) → rep 1 e ≡ rep 1 f → ⊥
