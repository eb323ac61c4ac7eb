-- The formula of an entry (T-03): "each free name is replaced by its fixpoint, written out, and the choice of bound names doesn't count".
-- It may be far larger than its table: it is what sameness means, and no program builds it.
use Rattle.std.specs.Prelude.{cond, ◌≡◌, eqb, length}
use mathlib.Core.List.{List, [], ◌∷◌}
use Prim.Native.Nat.{ℕ, zero, suc}
use Rattle.formula.specs.Table.{Table}
use Rattle.formula.specs.Shape.{Shape, leaf, two, step, fix, name, never, shape}
use Rattle.formula.specs.Below.{recur}
use Rattle.written.specs.Form.{Form, atom, pair, modal, bind, bound}

-- a name of the fixpoint x below the fixpoints s, innermost first and counted from i on: bound if x is one of these; else free, and replaced by
-- what f has for x
unfoldable pub named : (ℕ → Form) → ℕ → List ℕ → ℕ → Form
named f i [] x = f x
named f i (y ∷ s) x =
    let further = named f (suc i) s x in
    cond (eqb x y) (bound i) further

-- an entry e of a shape below the fixpoints s, g writing the entries below it
unfoldable pub clause : (ℕ → Form) → (ℕ → List ℕ → Form) → ℕ → Shape → List ℕ → Form
unfolding named
clause f g e (leaf l) s = atom l
clause f g e (two o a b) s = pair o (g a s) (g b s)
clause f g e (step m a) s = modal m (g a s)
clause f g e (fix σ a) s = bind σ (g a (e ∷ s))
clause f g e (name x) s = named f 0 s x

module _ (t : Table) where
  -- entry e below the fixpoints s, each free name x replaced by f x
  unfoldable pub spell : (ℕ → Form) → ℕ → List ℕ → Form
  unfolding clause recur shape
  spell f = recur (λ s. atom never) (λ g e. clause f g e (shape t e))

  -- an entry by itself, with d replacements one inside the other
  unfoldable pub replaced : ℕ → ℕ → Form
  unfolding spell
  replaced zero e = atom never
  replaced (suc d) e = spell (replaced d) e []

  -- a free name's fixpoint lies above the entry, so there cannot be more of them one inside the other than entries (written_law)
  unfoldable pub written : ℕ → Form
  unfolding replaced
  written e = replaced (suc (length t)) e

  -- "members are compared by formula"
  abbrev pub SameFormula : ℕ → ℕ → Type 0
  SameFormula e f = written e ≡ written f
