-- a formula put in place of a bound name
use Rattle.std.proofs.Math.Bool.{cond}
use Prim.Native.Nat.{ℕ, suc}
use Rattle.std.proofs.Math.Dec.{eqb}
use Rattle.written.specs.Form.{Form, atom, pair, modal, bind, bound}

-- a formula with G, which is closed, in place of the name of the fixpoint k further out
unfoldable pub inst : ℕ → Form → Form → Form
inst k G (atom l) = atom l
inst k G (pair o F H) = pair o (inst k G F) (inst k G H)
inst k G (modal m F) = modal m (inst k G F)
inst k G (bind σ F) = bind σ (inst (suc k) G F)
inst k G (bound i) = cond (eqb i k) G (bound i)
