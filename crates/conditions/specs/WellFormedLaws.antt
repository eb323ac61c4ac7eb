-- what well-formedness says of fixpoints, operands and free names
use Rattle.std.specs.Prelude.{◌≡◌, ℕ, ◌<◌, length}
use Rattle.std.proofs.Math.Path.{subst⁻¹}
use Rattle.formula.specs.Table.{Table}
use Rattle.formula.specs.Shape.{Shape, fix, name, Fix, shape, Operand}
use Rattle.conditions.specs.Free.{Free, named, inside}
use Rattle.conditions.specs.WellFormed.{WellFormed}
use Rattle.formula.specs.TableLaws.{fix_in, fixpoint_is}

module _ (t : Table) (wf : WellFormed t) where
  pub operand_below : (e c : ℕ) {v : Shape} → shape t e ≡ v → Operand v c → c < e
  operand_below e c q o = wf.operands_below e c (subst⁻¹ (λ (u : Shape). Operand u c) q o)

  -- a name's fixpoint
  pub name_fix : (e x : ℕ) → shape t e ≡ name x → (σ : Fix) × (a : ℕ) × (shape t x ≡ fix σ a)
  name_fix e x q = fixpoint_is (shape t x) (wf.names_above e x q).2

  pub free_fix : {e x : ℕ} → Free t e x → (σ : Fix) × (a : ℕ) × (shape t x ≡ fix σ a)
  free_fix (named {e = e} {x = x} q) = name_fix e x q
  free_fix (inside v q o k f) = free_fix f

  pub free_in : {e x : ℕ} → Free t e x → x < length t
  free_in {x} f = let (σ, a, q) = free_fix f in fix_in t x a σ q
