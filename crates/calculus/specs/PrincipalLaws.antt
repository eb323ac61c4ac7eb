-- the keys of a node's sequent and of its principal's targets stand for these
use Rattle.std.specs.Prelude.{◌≡◌, List, ◌∷◌, ℕ, ◌<◌, length}
use Rattle.std.proofs.Common.{ap, ap₂, subst, arith}
use Rattle.verdict.specs.Sets.{Set, ◌plus◌}
use Rattle.formula.specs.Table.{Table, entry}
use Rattle.formula.specs.Shape.{Shape, shape, Operand}
use Rattle.formula.specs.ShapeLaws.{name_shape}
use Rattle.formula.specs.TableLaws.{target_by}
use Rattle.formula.specs.Target.{target}
use Rattle.formula.specs.Codes.{Formula, code, code_entry, code_focus}
use Rattle.formula.specs.Nodes.{Proof}
use Rattle.formula.specs.Claim.{Claim, Derivation}
use Rattle.conditions.specs.WellFormed.{WellFormed}
use Rattle.conditions.specs.WellFormedLaws.{operand_below}
use Rattle.written.specs.Written.{written}
use Rattle.written.specs.Canon.{key}
use Rattle.calculus.specs.Sequents.{Member, member, read, sequent, formula, Belongs}
use Rattle.calculus.specs.Rules.{A, B}
use Rattle.calculus.specs.View.{plain}
use Rattle.calculus.specs.Judge.{codes, keys}
use Rattle.calculus.specs.Given.{Given}
use Rattle.calculus.specs.KeyLaws.{Good, Keys, keys_plus, keys_image}

module _ (t : Table) where
  pub code_good : (e f : ℕ) → f < 2 → Formula t e → Good t (code e f)
  code_good e f h F = rw (code_entry e f h) F

  code_read : (e f : ℕ) → f < 2 → read t (code e f) ≡ member t e f
  code_read e f h = ap₂ {C = Member} (λ a b. (a, b)) (ap (written t) (code_entry e f h)) (code_focus e f h)

  -- one member more
  pub with_member : {l : List ℕ} {S : Set Member} (e f : ℕ) → f < 2 → Formula t e → Keys t l S → Keys t (key t (code e f) ∷ l) (S plus member t e f)
  with_member {l} {S} e f h F K =
      subst (λ (m : Member). Keys t (key t (code e f) ∷ l) (S plus m)) (code_read e f h) (keys_plus t K (code e f) (code_good e f h F))

-- an operand's target may be a member
module _ (t : Table) (wf : WellFormed t) where
  target_formula : (o : ℕ) → o < length t → Formula t (target t o)
  target_formula o l = target_by t o (Formula t)
      (λ n. record { inside = l; no_name = λ k. rw (name_shape t o k) at n })
      (λ x q. let (_, h, n) = wf.names_above o x q in record { inside = h; no_name = λ k. rw (name_shape t x k) at n })

  pub operand_formula : (e o : ℕ) {v : Shape} → Formula t e → shape t e ≡ v → Operand v o → Formula t (target t o)
  operand_formula e o F q z = target_formula o (omega (arith, operand_below t wf e o q z, F.inside))

module _ (c : Claim) (d : Derivation) (G : Given c d) where
  abbrev t : Table
  t = c.entries

  abbrev p : Proof
  p = d.nodes

  pub sequent_keys : (v : ℕ) → v < length p → Keys t (keys t (plain p) v) (sequent t p v)
  unfolding keys
  sequent_keys v real = keys_image t (λ x. x) (codes (plain p) v) (λ x n. G.members v x real n)

  module _ (v : ℕ) (real : v < length p) where
    -- the principal's targets, by its shape
    pub a_formula : {s : Shape} → Belongs t p v → shape t (formula p v) ≡ s → Operand s (entry t (formula p v)).a → Formula t (A c d v)
    a_formula b q o = operand_formula t G.well (formula p v) (entry t (formula p v)).a b.formula q o

    pub b_formula : {s : Shape} → Belongs t p v → shape t (formula p v) ≡ s → Operand s (entry t (formula p v)).b → Formula t (B c d v)
    b_formula b q o = operand_formula t G.well (formula p v) (entry t (formula p v)).b b.formula q o
