-- Formulas as trees in which the choice of bound names does not show (T-03: it "doesn't count"): a bound name is the number of fixpoints
-- that stand between it and its own, as de Bruijn writes it. Formulas that differ in that choice alone are one tree.
use Rattle.std.specs.Prelude.{◌≡◌, ℕ}
use Rattle.std.proofs.Math.Decide.{ℕ_discrete}
use Rattle.formula.specs.Shape.{Leaf, Two, Step, Fix, Leaf-discrete, Two-discrete, Step-discrete, Fix-discrete}

pub data Form : Type 0 where
  atom : Leaf → Form
  pair : Two → Form → Form → Form
  modal : Step → Form → Form
  bind : Fix → Form → Form
  bound : ℕ → Form
  deriving Discrete as Form-discrete

abbrev pub same_form : (F G : Form) → Dec (F ≡ G)
same_form = Form-discrete (Leaf-discrete ℕ_discrete) Two-discrete (Step-discrete ℕ_discrete) Fix-discrete ℕ_discrete
