-- well-formed tables, and the refusal of 20, 71 and 21 to 23 that an ill-formed one earns first
use Rattle.std.specs.Prelude.{◌≡◌, Bool, false, ◌⊎◌, ℕ, ◌<◌, length}
use Rattle.formula.specs.Table.{Table}
use Rattle.formula.specs.Shape.{Fix, fix, leaf, letter, negated, step, diamond, box, shape}
use Rattle.conditions.specs.WellFormed.{WellFormed}
use Rattle.conditions.specs.Conditions.{OutOfBounds, WrongAction, NotAbove, Alternates, Unguarded, OwnUnguarded}

-- none of 20, 71 and 21 to 23 is earned
pub record Formed (t : Table) : Type 0 where
  pub well : WellFormed t
  -- letters 0 to 31
  pub letters : (e p : ℕ) → (shape t e ≡ leaf (letter p)) ⊎ (shape t e ≡ leaf (negated p)) → p < 32
  -- actions 0 to 15
  pub actions : (e n a : ℕ) → (shape t e ≡ step (diamond n) a) ⊎ (shape t e ≡ step (box n) a) → n < 16
  -- guardedness: a fixpoint's own name is reached from its body only through a box or diamond
  pub guards : (e a : ℕ) (σ : Fix) → shape t e ≡ fix σ a → Unguarded t a e → ⊥

abbrev pub InBounds : Table → ℕ → Type 0
InBounds t e = OutOfBounds t e → ⊥

-- what 20 and 71 ask of an entry
pub record Placed (z : ℕ → Bool) (t : Table) (e : ℕ) : Type 0 where
  pub bounded : InBounds t e
  pub acts : WrongAction z t e → ⊥

-- no 0 is written out
abbrev pub Unwritten : (ℕ → Bool) → Table → Type 0
Unwritten z t = (e : ℕ) → e < length t → z e ≡ false

-- what 21, 22 and 23 ask of an entry
pub record Fits (t : Table) (e : ℕ) : Type 0 where
  pub above : NotAbove t e → ⊥
  pub alike : Alternates t e → ⊥
  pub guarded : OwnUnguarded t e → ⊥

-- the refusal at entry e: its condition, and none before it in the order: 20 and 71 over all entries, 20 first at each, then
-- 21, 22, 23 entry by entry
pub data Earns (z : ℕ → Bool) (t : Table) : ℕ → ℕ → Type 0 where
  bounds : {e : ℕ} → OutOfBounds t e → ((w : ℕ) → w < e → Placed z t w) → Earns z t 20 e
  action : {e : ℕ} → InBounds t e → WrongAction z t e → ((w : ℕ) → w < e → Placed z t w) → Earns z t 71 e
  above : {e : ℕ} → ((w : ℕ) → Placed z t w) → ((w : ℕ) → w < e → Fits t w) → NotAbove t e → Earns z t 21 e
  alternation : {e : ℕ} → ((w : ℕ) → Placed z t w) → ((w : ℕ) → w < e → Fits t w) → (NotAbove t e → ⊥) → Alternates t e → Earns z t 22 e
  unguarded : {e : ℕ} → ((w : ℕ) → Placed z t w) → ((w : ℕ) → w < e → Fits t w) → (NotAbove t e → ⊥) → (Alternates t e → ⊥) → OwnUnguarded t e → Earns z t 23 e
