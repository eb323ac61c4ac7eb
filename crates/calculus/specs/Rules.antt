-- each rule of document 01, as a relation between a node's sequent and its children's
use Rattle.std.specs.Prelude.{◌≡◌, ◌≢◌, ℕ}
use Rattle.formula.specs.Kind
use Rattle.formula.specs.Rule
use Rattle.verdict.specs.Sets.{Same, none, image, ◌plus◌}
use Rattle.formula.specs.Table.{Table, entry, kind, action}
use Rattle.formula.specs.Target.{target_a, target_b}
use Rattle.formula.specs.Codes.{code, entry_of_lem, focus_of}
use Rattle.formula.specs.Nodes.{Proof, node}
use Rattle.formula.specs.Claim.{Claim, Derivation}
use Rattle.calculus.specs.Sequents.{member, read, rule, listed, sequent, first_sequent, second_sequent, principal, formula, focus, side, Belongs}
use Rattle.calculus.specs.Paths.{Ancestor}

-- a diamond of action n: "The box rule needs diamonds of the principal's own action"
abbrev pub DiamondOf : Table → ℕ → ℕ → Type 0
DiamondOf t n e = (kind t e ≡ Kind.DIAMOND) × (action t e ≡ n)

-- the target of a modal member, with the member's focus
abbrev pub stepped : Table → ℕ → ℕ
stepped t c = code (target_a t (entry_of_lem c)) (focus_of c)

module _ (c : Claim) (d : Derivation) (v : ℕ) where
  abbrev t : Table
  t = c.entries

  abbrev p : Proof
  p = d.nodes

  -- the targets of the principal's operands
  abbrev pub A : ℕ
  A = target_a t (formula p v)

  abbrev pub B : ℕ
  B = target_b t (formula p v)

  pub record Principal (k : ℕ) : Type 0 where
    pub belongs : Belongs t p v
    pub of_kind : kind t (formula p v) ≡ k

  -- exactly a letter and its negation, either focus
  pub record Clash : Type 0 where
    pub plain : ℕ
    pub negated : ℕ
    pub plain_kind : kind t (entry_of_lem plain) ≡ Kind.LETTER
    pub negated_kind : kind t (entry_of_lem negated) ≡ Kind.NEGATED
    pub one_letter : (entry t (entry_of_lem plain)).a ≡ (entry t (entry_of_lem negated)).a
    pub exactly : Same (sequent t p v) (none plus read t plain plus read t negated)

  -- exactly one member, true
  pub record Truth : Type 0 where
    pub only : ℕ
    pub of_kind : kind t (entry_of_lem only) ≡ Kind.TRUE
    pub exactly : Same (sequent t p v) (none plus read t only)

  -- what a node owes its children, by its rule
  pub data Step : Type 0 where
    ax1 : rule p v ≡ Rule.AX1 → Clash → Step
    ax2 : rule p v ≡ Rule.AX2 → Truth → Step
    or : rule p v ≡ Rule.OR
        → Principal Kind.OR
        → Same (first_sequent t p v) (side t p v plus member t A (focus p v) plus member t B (focus p v))
        → Step
    and : rule p v ≡ Rule.AND
        → Principal Kind.AND
        → Same (first_sequent t p v) (side t p v plus member t A (focus p v))
        → Same (second_sequent t p v) (side t p v plus member t B (focus p v))
        → Step
    box : rule p v ≡ Rule.BOX
        → Principal Kind.BOX
        → ((x : ℕ) → listed p v x → read t x ≢ read t (principal p v) → DiamondOf t (action t (formula p v)) (entry_of_lem x))
        → Same (first_sequent t p v) (image (λ x. read t (stepped t x)) (listed p v))
        → Step
    mu : rule p v ≡ Rule.MU → Principal Kind.MU → Same (first_sequent t p v) (side t p v plus member t A 0) → Step
    nu : rule p v ≡ Rule.NU → Principal Kind.NU → Same (first_sequent t p v) (side t p v plus member t A (focus p v)) → Step
    weaken : rule p v ≡ Rule.W → Belongs t p v → Same (first_sequent t p v) (side t p v) → Step
    into_focus : rule p v ≡ Rule.F
        → Belongs t p v
        → focus p v ≡ 0
        → Same (first_sequent t p v) (side t p v plus member t (formula p v) 1)
        → Step
    out_of_focus : rule p v ≡ Rule.U
        → Belongs t p v
        → focus p v ≡ 1
        → Same (first_sequent t p v) (side t p v plus member t (formula p v) 0)
        → Step
    discharge : rule p v ≡ Rule.D → Same (first_sequent t p v) (sequent t p v) → Step

  -- linked to a proper ancestor of rule 10 with the same sequent
  pub record BackLeaf : Type 0 where
    pub companion : Ancestor p (node p v).back v
    pub companion_rule : rule p (node p v).back ≡ Rule.D
    pub same : Same (sequent t p v) (sequent t p (node p v).back)

  -- what a leaf owes its tree
  pub data Leaf : Type 0 where
    back : rule p v ≡ Rule.BACK → BackLeaf → Leaf

  -- node v keeps its rule
  pub data Keeps : Type 0 where
    by_children : Step → Keeps
    by_tree : Leaf → Keeps
