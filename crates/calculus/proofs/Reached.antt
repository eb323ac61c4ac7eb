-- going up: a refuted node reaches a refuted back leaf whose companion lies above the node
use Rattle.std.specs.Prelude.{◌≡◌, ◌⊎◌, ℕ, zero, suc, ◌+◌, ◌<◌, ◌≤◌, length}
use Rattle.std.proofs.Common.{ap, subst, sym, ◌∙◌, inl, inr, ⊎_elim, arith}
use Rattle.formula.specs.Rule
use Rattle.formula.specs.Table.{Table}
use Rattle.formula.specs.Nodes.{Proof}
use Rattle.formula.specs.Claim.{Claim, Derivation}
use Rattle.calculus.specs.Sequents.{rule, sequent}
use Rattle.calculus.specs.Paths.{Path, stop, down, On, join, on_start, on_join, ends, Ancestor}
use Rattle.calculus.specs.Rules.{BackLeaf, Keeps, back, by_children, by_tree}
use Rattle.calculus.specs.CorrectNodes.{CorrectNodes}
use Rattle.meaning.specs.States.{Model}
use Rattle.calculus.specs.Falsity.{Falsity}
use Rattle.calculus.specs.Refutes.{RefutesWithin}
use Rattle.calculus.specs.NodeStep.{Stepped}
use Rattle.calculus.proofs.NodeStep.{node_step}
use Rattle.calculus.specs.Reached.{Again, Reached, RefutedLeaf, Statement, companion, companion_refuted, loop, up}
use Rattle.calculus.proofs.OnLoop.{on_loop}

module _ (c : Claim) {m : Model} (M : Falsity c.entries m) (d : Derivation) where
  abbrev t : Table
  t = c.entries

  abbrev p : Proof
  p = d.nodes

  leaf_reached : {v j s : ℕ} → v < length p → rule p v ≡ Rule.BACK → BackLeaf c d v → RefutesWithin M j s (sequent t p v) → Reached c M d v j
  leaf_reached {v} {j} {s} real e k r = record {
    to = record { leaf = v; inside = real; is_back = e; keeps = k; state = s; rank = j; refuted = r };
    above = k.companion;
    path = stop;
    bound = omega arith;
    box_falls = λ x q b. absurd (omega (arith, ap (rule p) q));
  }

  more : {v i j : ℕ} → i ≤ j → Reached c M d v i → Reached c M d v j
  more h ρ = record {
    to = ρ.to;
    above = ρ.above;
    path = ρ.path;
    bound = omega (arith, ρ.bound);
    box_falls = λ x o b. omega (arith, ρ.box_falls x o b);
  }

  -- from a child's leaf to the node's own
  module _ (ok : CorrectNodes c d) {v j : ℕ} (σ : Stepped M p v j) (ρ : Reached c M d σ.child σ.rank) where
    abbrev l : RefutedLeaf c M d
    l = ρ.to

    abbrev edge : Path p v σ.child
    edge = down stop σ.edge

    abbrev whole : Path p v l.leaf
    whole = join edge ρ.path

    path_falls : (x : ℕ) → On ρ.path x → rule p x ≡ Rule.BOX → l.rank < j
    path_falls x o b = omega (arith, ρ.box_falls x o b, σ.keeps_rank (on_loop c M d ok σ ρ))

    edge_falls : (x : ℕ) → On edge x → rule p x ≡ Rule.BOX → l.rank < j
    edge_falls x (inl q) b = omega (arith, ρ.bound, σ.box_falls (on_loop c M d ok σ ρ) (ap (rule p) (sym q) ∙ b))
    edge_falls x (inr q) b = path_falls σ.child (on_start ρ.path) (ap (rule p) (sym q) ∙ b)

    whole_falls : (x : ℕ) → On whole x → rule p x ≡ Rule.BOX → l.rank < j
    whole_falls x o b = ⊎_elim (λ n. edge_falls x n b) (λ n. path_falls x n b) (on_join edge ρ.path x o)

    -- the companion is v itself: the loop path has a box
    again : ((x : ℕ) → On (up c M d ok σ ρ) x → x ≡ v) → Again M p v j
    again at_v =
        let (x, o, b) = (loop c M d ok σ ρ).some_box in
        record {
          state = l.state;
          rank = l.rank;
          refuted = subst (λ (c : ℕ). RefutesWithin M l.rank l.state (sequent t p c)) (at_v (companion l) (on_start (up c M d ok σ ρ))) (companion_refuted c M d l);
          fewer = ⊎_elim (λ n. whole_falls v (on_start whole) (ap (rule p) (sym (at_v x n)) ∙ b)) (λ n. whole_falls x n b) (on_join (up c M d ok σ ρ) whole x o);
        }

    reached : Ancestor p (companion l) v → Reached c M d v j
    reached a = record { to = l; above = a; path = whole; bound = omega (arith, ρ.bound, σ.keeps_rank (on_loop c M d ok σ ρ)); box_falls = whole_falls }

    from_child : Again M p v j ⊎ Reached c M d v j
    from_child = ⊎_elim (λ n. inl (again n)) (λ a. inr (reached a)) (ends (up c M d ok σ ρ))

  module _ (ok : CorrectNodes c d) where
    child_leaf : {v j : ℕ} → ((w : ℕ) → v < w → w < length p → Statement c M d ok w) → Stepped M p v j → Again M p v j ⊎ Reached c M d v j
    child_leaf below σ =
        from_child ok σ (below σ.child (ok.tree.forest.above σ.edge) (ok.tree.forest.inside σ.edge) σ.rank σ.state σ.refuted)

    module _ (v : ℕ) (real : v < length p) (below : (w : ℕ) → v < w → w < length p → Statement c M d ok w) where
      -- induction on the rank at one node
      at_node : (b j s : ℕ) → j < b → RefutesWithin M j s (sequent t p v) → Reached c M d v j
      at_node zero j s h r = absurd (omega arith)
      at_node (suc b) j s h r =
          let lower : Again M p v j → Reached c M d v j = λ a. more (omega (arith, a.fewer)) (at_node b a.rank a.state (omega (arith, a.fewer)) a.refuted) in
          let by_rule : Keeps c d v → Reached c M d v j = elim [
            | by_children k ↦ ⊎_elim lower (λ ρ. ρ) (child_leaf below (node_step c M d v real (λ x n. ok.members v x real n) r k))
            | by_tree (back e k) ↦ leaf_reached real e k r
          ] in
          by_rule (ok.keeps v real)

    -- induction on the node number, from the last node down
    from_last : (n v : ℕ) → length p ≤ v + n → v < length p → Statement c M d ok v
    from_last zero v h real j s r = absurd (omega arith)
    from_last (suc n) v h real j s r = at_node v real (λ w up real'. from_last n w (omega arith) real') (suc j) j s (omega arith) r

    pub every_node : (v : ℕ) → v < length p → Statement c M d ok v
    every_node v real = from_last (length p) v (omega arith) real
