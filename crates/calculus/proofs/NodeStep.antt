-- one step of soundness: a refuted node has a refuted child, and the rank falls at a box
use Rattle.std.specs.Prelude.{◌≡◌, refl, ◌≢◌, ℕ, pred, ◌+◌, ◌<◌, ◌≤◌, length}
use Rattle.std.proofs.Common.{inl, inr, ⊎_elim, arith}
use Rattle.formula.specs.Kind
use Rattle.formula.specs.Rule
use Rattle.verdict.specs.Sets.{Set, ◌⊆◌, image, ⊆-trans, plus_⊆, image_⊆, ◌plus◌}
use Rattle.formula.specs.Table.{Table, action}
use Rattle.formula.specs.Codes.{Formula, entry_of_lem, focus_of}
use Rattle.formula.specs.Members.{kind_formula}
use Rattle.formula.specs.Nodes.{Proof, node}
use Rattle.formula.specs.Claim.{Claim, Derivation}
use Rattle.calculus.specs.Tree.{Child, first, second}
use Rattle.calculus.specs.Sequents.{Member, member, read, rule, listed, sequent, first_sequent, principal, formula, focus, side, Belongs}
use Rattle.calculus.specs.Rules.{DiamondOf, stepped, A, B, Principal, Clash, Truth, Step, ax1, ax2, or, and, box, mu, nu, weaken, into_focus, out_of_focus, discharge}
use Rattle.meaning.specs.States.{Model, Successor}
use Rattle.calculus.specs.Falsity.{Falsity, Passes}
use Rattle.calculus.specs.Refutes.{Owed, OwedNext, Fails, RefutesWithin, owed_passes, owed_false, owed_more, fails_member, fails_more}
use Rattle.calculus.specs.NodeStep.{Stepped, entry_owed, member_next}

module _ (c : Claim) {m : Model} (M : Falsity c.entries m) (d : Derivation) (v : ℕ) (real : v < length d.nodes)
    (F : (x : ℕ) → listed d.nodes v x → Formula c.entries (entry_of_lem x)) {j s : ℕ} (r : RefutesWithin M j s (sequent c.entries d.nodes v)) where
  abbrev t : Table
  t = c.entries

  abbrev p : Proof
  p = d.nodes

  -- same state, same rank
  stay : (w : ℕ) → Child p v w → rule p v ≢ Rule.BOX → sequent t p w ⊆ Fails M j s → Stepped M p v j
  stay w e n f = record {
    child = w;
    edge = e;
    state = s;
    rank = j;
    refuted = record { inside = r.inside; all = f };
    keeps_rank = λ _. omega arith;
    box_falls = λ _ b. absurd (n b);
  }

  first_child : (Rule.OR ≤ rule p v) × (rule p v ≤ Rule.D) → Child p v (node p v).first
  first_child h = first real h.0 h.1 refl

  stay_first : (Rule.OR ≤ rule p v) × (rule p v ≤ Rule.D) × (rule p v ≢ Rule.BOX)
      → {S : Set Member} → first_sequent t p v ⊆ S → S ⊆ Fails M j s → Stepped M p v j
  stay_first h f g = stay (node p v).first (first_child (h.0, h.1)) h.2 (⊆-trans f g)

  side_fails : side t p v ⊆ Fails M j s
  side_fails c n = r.all c n.0

  entry_false : (x : ℕ) → Formula t (entry_of_lem x) → sequent t p v (read t x) → M.false_at (entry_of_lem x) s
  entry_false x G n = owed_false M j (focus_of x) (entry_of_lem x) s r.inside (entry_owed c M d v real F r x G n)

  -- axioms are not refuted
  clash_absurd : Clash c d v → ⊥
  clash_absurd k =
      let x = entry_of_lem k.plain in
      let y = entry_of_lem k.negated in
      let X = kind_formula t x (omega (arith, k.plain_kind)) (omega (arith, k.plain_kind)) in
      let Y = kind_formula t y (omega (arith, k.negated_kind)) (omega (arith, k.negated_kind)) in
      let lacks = M.letter_false x s r.inside k.plain_kind (entry_false k.plain X (k.exactly.from (read t k.plain) (inl (inr refl)))) in
      let has = M.negated_false y s r.inside k.negated_kind (entry_false k.negated Y (k.exactly.from (read t k.negated) (inr refl))) in
      let z : ◌≡◌ {A = ℕ} 0 1 = cc (lacks, has, k.one_letter) in
      omega arith

  truth_absurd : Truth c d v → ⊥
  truth_absurd k =
      let X = kind_formula t (entry_of_lem k.only) (omega (arith, k.of_kind)) (omega (arith, k.of_kind)) in
      M.true_false (entry_of_lem k.only) s r.inside k.of_kind (entry_false k.only X (k.exactly.from (read t k.only) (inr refl)))

  -- what the principal owes, and what passes to its targets with its focus
  owed : Belongs t p v → Owed M j (focus p v) (formula p v) s
  owed b = entry_owed c M d v real F r (principal p v) b.formula b.inside

  principal_false : Belongs t p v → M.false_at (formula p v) s
  principal_false b = entry_false (principal p v) b.formula b.inside

  passes : Passes t m (Owed M j (focus p v)) (OwedNext M j (focus p v))
  passes = owed_passes M j (focus p v)

  side_alike : (e : ℕ) → Owed M j (focus p v) e s → side t p v plus member t e (focus p v) ⊆ Fails M j s
  side_alike e o = plus_⊆ _ side_fails (fails_member M j s e (focus p v) r.inside o)

  side_out : (e : ℕ) → M.false_at e s → side t p v plus member t e 0 ⊆ Fails M j s
  side_out e o = plus_⊆ _ side_fails (fails_member M j s e 0 r.inside o)

  or_fails : Principal c d v Kind.OR → side t p v plus member t (A c d v) (focus p v) plus member t (B c d v) (focus p v) ⊆ Fails M j s
  or_fails P =
      let (a, b) = passes.or (formula p v) s r.inside P.of_kind (owed P.belongs) in
      plus_⊆ _ (side_alike (A c d v) a) (fails_member M j s (B c d v) (focus p v) r.inside b)

  -- F: the new member may need more steps; no loop path has an F
  focus_step : rule p v ≡ Rule.F → Belongs t p v → first_sequent t p v ⊆ side t p v plus member t (formula p v) 1 → Stepped M p v j
  focus_step e b f =
      let (k, o) = M.complete (formula p v) s r.inside b.formula (principal_false b) in
      let side_more : side t p v ⊆ Fails M (k + j) s = λ x n. fails_more M j (k + j) s (omega arith) x (side_fails x n) in
      let more = owed_more M k (k + j) 1 (formula p v) s (omega arith) o in
      let new : Fails M (k + j) s (member t (formula p v) 1) = fails_member M (k + j) s (formula p v) 1 r.inside more in
      record {
        child = (node p v).first;
        edge = first_child (omega arith);
        state = s;
        rank = k + j;
        refuted = record { inside = r.inside; all = ⊆-trans f (plus_⊆ _ side_more new) };
        keeps_rank = λ l. absurd (l.not_F e);
        box_falls = λ l. absurd (l.not_F e);
      }

  module _ (P : Principal c d v Kind.BOX) (diamonds : (x : ℕ) → listed p v x → read t x ≢ read t (principal p v) → DiamondOf t (action t (formula p v)) (entry_of_lem x))
      (u : ℕ) (edge : Successor m (action t (formula p v)) s u) (o : OwedNext M j (focus p v) (A c d v) u) where
    targets_fail : image (λ x. read t (stepped t x)) (listed p v) ⊆ Fails M (pred j) u
    targets_fail = image_⊆ (Fails M (pred j) u) (λ x. read t (stepped t x)) (λ x n. (member_next c M d v real F r P diamonds u edge o x n).0)

    -- one step less; and where a member is in focus, there was one
    box_step : rule p v ≡ Rule.BOX → first_sequent t p v ⊆ image (λ x. read t (stepped t x)) (listed p v) → Stepped M p v j
    box_step e f = record {
      child = (node p v).first;
      edge = first_child (omega arith);
      state = u;
      rank = pred j;
      refuted = record { inside = edge.0; all = ⊆-trans f targets_fail };
      keeps_rank = λ _. omega arith;
      box_falls = λ l _. let (x, n, h) = l.has_focus in (member_next c M d v real F r P diamonds u edge o x n).1 h;
    }

  pub node_step : Step c d v → Stepped M p v j
  node_step (ax1 e k) = absurd (clash_absurd k)
  node_step (ax2 e k) = absurd (truth_absurd k)
  node_step (or e P f) = stay_first (omega arith) f.into (or_fails P)
  node_step (and e P f g) = ⊎_elim
      (λ a. stay_first (omega arith) f.into (side_alike (A c d v) a))
      (λ b. stay (node p v).second (second real e refl) (omega arith) (⊆-trans g.into (side_alike (B c d v) b)))
      (passes.and (formula p v) s r.inside P.of_kind (owed P.belongs))
  node_step (box e P h f) =
      let (u, edge, o) = passes.box (formula p v) s r.inside P.of_kind (owed P.belongs) in
      box_step P h u edge o e f.into
  node_step (mu e P f) =
      stay_first (omega arith) f.into (side_out (A c d v) (M.mu_false (formula p v) s r.inside P.of_kind (principal_false P.belongs)))
  node_step (nu e P f) =
      stay_first (omega arith) f.into (side_alike (A c d v) (passes.nu (formula p v) s r.inside P.of_kind (owed P.belongs)))
  node_step (weaken e b f) = stay_first (omega arith) f.into side_fails
  node_step (into_focus e b h f) = focus_step e b f.into
  node_step (out_of_focus e b h f) = stay_first (omega arith) f.into (side_out (formula p v) (principal_false b))
  node_step (discharge e f) = stay_first (omega arith) f.into r.all
