-- what a refuted node and a member of a box's targets hand down
use Rattle.std.specs.Prelude.{◌≡◌, refl, ◌≢◌, ℕ, pred, ◌<◌, ◌≤◌, length}
use Rattle.std.proofs.Common.{sym, ap, ap₂, subst, ◌∙◌, arith}
use Rattle.formula.specs.Kind
use Rattle.formula.specs.Rule
use Rattle.formula.specs.Table.{Table, action}
use Rattle.formula.specs.Codes.{Formula, entry_of_lem, focus_of, code_entry, code_focus}
use Rattle.formula.specs.Target.{target_a}
use Rattle.formula.specs.Nodes.{Proof}
use Rattle.formula.specs.Claim.{Claim, Derivation}
use Rattle.written.specs.Written.{written, SameFormula}
use Rattle.calculus.specs.Tree.{Child}
use Rattle.calculus.specs.Sequents.{Member, read, rule, listed, sequent, principal, formula, focus}
use Rattle.calculus.specs.MemberLaws.{same_member}
use Rattle.calculus.specs.Rules.{DiamondOf, stepped, A, Principal}
use Rattle.calculus.specs.Loops.{OnLoop}
use Rattle.meaning.specs.States.{Model, Successor}
use Rattle.calculus.specs.Falsity.{Falsity}
use Rattle.calculus.specs.Refutes.{Owed, OwedNext, Fails, RefutesWithin, owed_passes, owed_next, focused_next, fails_member}

-- a refuted child of v; its rank matters only where v may lie on a loop path
pub record Stepped {t : Table} {m : Model} (M : Falsity t m) (p : Proof) (v j : ℕ) : Type 0 where
  pub child : ℕ
  pub edge : Child p v child
  pub state : ℕ
  pub rank : ℕ
  pub refuted : RefutesWithin M rank state (sequent t p child)
  pub keeps_rank : OnLoop p v → rank ≤ j
  pub box_falls : OnLoop p v → rule p v ≡ Rule.BOX → rank < j

module _ (c : Claim) {m : Model} (M : Falsity c.entries m) (d : Derivation) (v : ℕ) (real : v < length d.nodes)
    (F : (x : ℕ) → listed d.nodes v x → Formula c.entries (entry_of_lem x)) {j s : ℕ} (r : RefutesWithin M j s (sequent c.entries d.nodes v)) where
  abbrev t : Table
  t = c.entries

  abbrev p : Proof
  p = d.nodes

  -- what an entry owes whose formula is a member
  pub entry_owed : (x : ℕ) → Formula t (entry_of_lem x) → sequent t p v (read t x) → Owed M j (focus_of x) (entry_of_lem x) s
  entry_owed x G n = r.all (read t x) n (entry_of_lem x) G refl

  module _ (P : Principal c d v Kind.BOX) (diamonds : (x : ℕ) → listed p v x → read t x ≢ read t (principal p v) → DiamondOf t (action t (formula p v)) (entry_of_lem x))
      (u : ℕ) (edge : Successor m (action t (formula p v)) s u) (o : OwedNext M j (focus p v) (A c d v) u) where
    -- at the successor that refutes the box, every listed entry's target fails, and one in focus has a step to spare
    abbrev Next : ℕ → Type 0
    Next x = Fails M (pred j) u (read t (stepped t x)) × (focus_of x ≡ 1 → pred j < j)

    -- since an entry of the target's formula owes with the same focus
    by_entry : (x e f : ℕ) → f ≡ focus_of x → SameFormula t e (target_a t (entry_of_lem x)) → OwedNext M j f e u → Next x
    by_entry x e f q z w =
        let a : written t e ≡ written t (entry_of_lem (stepped t x)) = rw (code_entry (target_a t (entry_of_lem x)) (focus_of x) (omega arith)) z in
        let b : f ≡ focus_of (stepped t x) = rw (code_focus (target_a t (entry_of_lem x)) (focus_of x) (omega arith)) q in
        let fails = fails_member M (pred j) u e f edge.0 (owed_next M j f e u w) in
        (subst (Fails M (pred j) u) (ap₂ {C = Member} (λ F f. (F, f)) a b) fails, λ h. focused_next M j f e u (q ∙ h) w)

    -- a twin of the principal by the principal, any other entry being a diamond of its action
    pub member_next : (x : ℕ) → listed p v x → Next x
    member_next x n = pick (same_member (read t x) (read t (principal p v)))
      where
        pick : Dec (read t x ≡ read t (principal p v)) → Next x
        pick (yes q) =
            let like = M.box_like (formula p v) (entry_of_lem x) P.of_kind (F x n) (ap (λ (k : Member). k.0) (sym q)) in
            by_entry x (A c d v) (focus p v) (ap (λ (k : Member). k.1) (sym q)) like o
        pick (no q) =
            let owes = entry_owed x (F x n) (x, n, refl) in
            let (k, a) = diamonds x n q in
            by_entry x (target_a t (entry_of_lem x)) (focus_of x) refl refl ((owed_passes M j (focus_of x)).diamond (entry_of_lem x) s r.inside k owes u (rw a edge))
