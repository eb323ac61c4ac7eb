-- free names: of a name its fixpoint alone, of a fixpoint its body's less itself, of any other entry its operands' together
use Rattle.std.specs.Prelude.{◌≡◌, ℕ}
use Rattle.formula.specs.Table.{Table}
use Rattle.formula.specs.Shape.{Shape, name, shape, Operand, Fixpoint}

-- x is a free name of e
pub data Free (t : Table) : ℕ → ℕ → Type 0 where
  named : {e x : ℕ} → shape t e ≡ name x → Free t e x
  inside : {e c x : ℕ} (v : Shape) → shape t e ≡ v → Operand v c → (Fixpoint v → x ≡ e → ⊥) → Free t c x → Free t e x
