-- The sequent of a node, its principal and its side. Members are compared by formula (T-03): a code stands for the formula of its entry, with
-- the code's focus.
use Rattle.std.specs.Prelude.{◌≡◌, ℕ}
use Rattle.verdict.specs.Sets.{Set, elements, without, image}
use Rattle.formula.specs.Table.{Table}
use Rattle.formula.specs.Codes.{Formula, entry_of_lem, focus_of}
use Rattle.formula.specs.Nodes.{Proof, node}
use Rattle.written.specs.Form.{Form}
use Rattle.written.specs.Written.{written}

-- a formula, with its focus
abbrev pub Member : Type 0
Member = Form × ℕ

abbrev pub member : Table → ℕ → ℕ → Member
member t e f = (written t e, f)

-- a code as a member
abbrev pub read : Table → ℕ → Member
read t c = member t (entry_of_lem c) (focus_of c)

module _ (p : Proof) where
  abbrev pub rule : ℕ → ℕ
  rule v = (node p v).rule

  -- the codes that a node lists
  abbrev pub listed : ℕ → Set ℕ
  listed v = elements (node p v).codes

  -- a code too
  abbrev pub principal : ℕ → ℕ
  principal v = (node p v).principal

  -- the principal's entry and its focus
  abbrev pub formula : ℕ → ℕ
  formula v = entry_of_lem (principal v)

  abbrev pub focus : ℕ → ℕ
  focus v = focus_of (principal v)

  abbrev pub HasFocus : ℕ → Type 0
  HasFocus v = (c : ℕ) × listed v c × (focus_of c ≡ 1)

module _ (t : Table) (p : Proof) where
  -- "A list is read as the set of its formulas, with focus"
  abbrev pub sequent : ℕ → Set Member
  sequent v = image (read t) (listed p v)

  abbrev pub first_sequent : ℕ → Set Member
  first_sequent v = sequent (node p v).first

  abbrev pub second_sequent : ℕ → Set Member
  second_sequent v = sequent (node p v).second

  -- the side (document 01's term): the sequent without the principal
  abbrev pub side : ℕ → Set Member
  side v = without (sequent v) (read t (principal p v))

  -- "A principal that is a name or out of range still gets 37": it is an entry and no name, and its formula with its focus is in the sequent
  pub record Belongs (v : ℕ) : Type 0 where
    pub formula : Formula t (formula p v)
    pub inside : sequent v (read t (principal p v))
