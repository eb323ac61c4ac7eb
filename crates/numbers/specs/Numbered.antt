-- What the numbering asks of a table in plain numbers, and what it says.
use Rattle.std.specs.Prelude.{◌≡◌, false, List, ℕ, ◌*◌, ◌<◌, ◌≤◌, length, get_or}
use Rattle.std.proofs.Common.{◌∙◌, arith}
use Rattle.formula.specs.Kind
use Rattle.formula.specs.Table.{Table}
use Rattle.formula.specs.Plain.{table_of}
use Rattle.conditions.specs.WellFormed.{WellFormed}
use Rattle.operands.specs.OperandBounds.{out_of}
use Rattle.written.specs.Canon.{canon}

-- a table of known kinds that earns none of 20 to 23
pub record Numberable (ks xs ys : List ℕ) (n : ℕ) : Type 0 where
  pub small : n ≤ 256
  pub known : (e : ℕ) → e < n → get_or ks e 0 ≤ Kind.NAME
  pub placed : (w : ℕ) → w < n → out_of (table_of ks xs ys n) w ≡ false
  pub wf : WellFormed (table_of ks xs ys n)

-- room for n entries
pub record RoomFor (n : ℕ) (fs us vs rs ss : List ℕ) : Type 0 where
  pub free : 4 * n ≤ length fs
  pub firsts : 4 * n ≤ length us
  pub seconds : 4 * n ≤ length vs
  pub cells : 256 * n ≤ length rs
  pub marks : 8 * n ≤ length ss

-- as much as m entries need
pub room : (m : ℕ) {n : ℕ} {fs us vs rs ss : List ℕ} → n ≤ m → length fs ≡ 4 * m → length us ≡ 4 * m → length vs ≡ 4 * m → length rs ≡ 256 * m
    → length ss ≡ 8 * m → RoomFor n fs us vs rs ss
room m h f u v r s = record { free = omega arith; firsts = omega arith; seconds = omega arith; cells = omega arith; marks = omega arith }

-- each entry has the number of its formula, a name that of its fixpoint's; beyond the table everything is as it was
pub record Numbered (t : Table) (old cs : List ℕ) : Type 0 where
  pub each : (e : ℕ) → e < length t → get_or cs e 0 ≡ canon t e
  pub beyond : (e : ℕ) → length t ≤ e → get_or cs e 0 ≡ get_or old e 0

-- twice
pub numbered_again : {t : Table} {old cs ds : List ℕ} → Numbered t old cs → Numbered t cs ds → Numbered t old ds
numbered_again a b = record { each = b.each; beyond = λ e h. b.beyond e h ∙ a.beyond e h }
