-- what meaning asks of a table: operands below, a name's fixpoint above, free names above, no alternation
use Rattle.std.specs.Prelude.{◌≡◌, ℕ, ◌<◌, length}
use Rattle.formula.specs.Table.{Table}
use Rattle.formula.specs.Shape.{Fix, fix, name, shape, Operand, Fixpoint}
use Rattle.conditions.specs.Free.{Free}

pub record WellFormed (t : Table) : Type 0 where
  -- operands and bodies lie below their entry
  pub operands_below : (e c : ℕ) → Operand (shape t e) c → c < e
  -- a name's fixpoint lies above it
  pub names_above : (e x : ℕ) → shape t e ≡ name x → (e < x) × (x < length t) × Fixpoint (shape t x)
  -- each free name of an entry lies above that entry
  pub free_above : (e x : ℕ) → Free t e x → e < x
  -- a mu entry has no free name that is a nu, nor a nu one that is a mu: alternation-freeness
  pub no_alternation : (e x a b : ℕ) (σ τ : Fix) → shape t e ≡ fix σ a → Free t e x → shape t x ≡ fix τ b → σ ≡ τ
