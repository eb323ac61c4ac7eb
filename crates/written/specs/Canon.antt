-- A number for each formula: the least entry that has it and is no name. Entries are the same formula just where their numbers are equal
-- (CanonLaws), so a judge compares these.
use Rattle.std.specs.Prelude.{Bool, ◌&&◌, ℕ, zero, suc, eqb, length}
use Rattle.std.proofs.Math.Bool.{not, decide}
use Rattle.verdict.specs.Tests.{choose}
use Rattle.formula.specs.Kind
use Rattle.formula.specs.Table.{Table, kind}
use Rattle.formula.specs.Codes.{code, entry_of_lem, focus_of}
use Rattle.written.specs.Form.{Form, same_form}
use Rattle.written.specs.Written.{written}

-- the first of n numbers from i on that passes, else i + n
unfoldable pub least : (ℕ → Bool) → ℕ → ℕ → ℕ
least ok zero i = i
least ok (suc n) i =
    let later = least ok n (suc i) in
    choose (ok i) i later

module _ (t : Table) where
  -- entry f is no name and has the formula F
  unfoldable pub has_form : Form → ℕ → Bool
  unfolding written decide
  has_form F f = not (eqb (kind t f) Kind.NAME) && decide (same_form F (written t f))

  unfoldable pub canon : ℕ → ℕ
  unfolding has_form least
  canon e = least (has_form (written t e)) (length t) 0

  -- a code by the number of its formula, focus as it is
  abbrev pub key : ℕ → ℕ
  key c = code (canon (entry_of_lem c)) (focus_of c)
