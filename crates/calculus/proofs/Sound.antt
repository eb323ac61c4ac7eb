-- soundness: in a correct proof no state refutes a goal, nor any node
use Rattle.std.specs.Prelude.{◌≡◌, refl, ◌⊎◌, ℕ, zero, suc, ◌<◌, length}
use Rattle.std.proofs.Common.{subst, sym, ap, ◌∙◌, inl, inr, ⊎_elim, arith}
use mathlib.Core.List.Memᴰ
use mathlib.Core.List.{List, [], ◌∷◌, Memᴰ}
use Rattle.verdict.specs.Sets.{Set, ◌⊆◌, elements}
use Rattle.formula.specs.Table.{Table}
use Rattle.formula.specs.Codes.{entry_of_lem, code_entry}
use Rattle.formula.specs.Nodes.{Proof, node}
use Rattle.formula.specs.Claim.{Claim, Derivation}
use Rattle.written.specs.Written.{written}
use Rattle.calculus.specs.Sequents.{Member, read, listed, sequent}
use Rattle.calculus.specs.Paths.{ancestor_below}
use Rattle.calculus.specs.CorrectNodes.{CorrectNodes}
use Rattle.calculus.specs.Goals.{goal, root, Claimed}
use Rattle.calculus.specs.Given.{Given}
use Rattle.calculus.specs.GoalLaws.{root_real}
use Rattle.meaning.specs.States.{Model}
use Rattle.calculus.specs.Falsity.{Falsity}
use Rattle.calculus.specs.Refutes.{Refutes, RefutesWithin, all_within, listed_fails}
use Rattle.calculus.specs.Reached.{companion, companion_refuted}
use Rattle.calculus.proofs.Reached.{every_node}

all_or_some : {P : Set ℕ} → ((c : ℕ) → Dec (P c)) → (l : List ℕ) → (elements l ⊆ P) ⊎ ((c : ℕ) × elements l c × (¬ P c))
all_or_some d [] = inl (λ c n. absurd (Memᴰ.not-nil n))
all_or_some {P} d (x ∷ l) = go (d x) (all_or_some d l)
  where
    go : Dec (P x) → (elements l ⊆ P) ⊎ ((c : ℕ) × elements l c × (¬ P c)) → (elements (x ∷ l) ⊆ P) ⊎ ((c : ℕ) × elements (x ∷ l) c × (¬ P c))
    go (no q) r = inr (x, Memᴰ.head refl, q)
    go (yes q) (inl f) = inl (λ c n. ⊎_elim (λ (e : c ≡ x). subst P (sym e) q) (λ (k : Memᴰ c l). f c k) (Memᴰ.cases_cons n))
    go (yes q) (inr (c, n, k)) = inr (c, Memᴰ.tail n, k)

module _ (c : Claim) {m : Model} (M : Falsity c.entries m) (d : Derivation) (ok : CorrectNodes c d) where
  abbrev t : Table
  t = c.entries

  abbrev p : Proof
  p = d.nodes

  -- a refuted node has a refuted companion with a smaller number
  none_below : (n v : ℕ) → v < n → v < length p → (j s : ℕ) → RefutesWithin M j s (sequent t p v) → ⊥
  none_below zero v h real j s r = omega arith
  none_below (suc n) v h real j s r =
      let ρ = every_node c M d ok v real j s r in
      let up = ancestor_below ok.tree.forest ρ.above in
      none_below n (companion ρ.to) (omega arith) (omega arith) ρ.to.rank ρ.to.state (companion_refuted c M d ρ.to)

  -- not the roots alone: no node
  pub no_node_refuted : (v : ℕ) → v < length p → (s : ℕ) → Refutes M s (listed p v) → ⊥
  no_node_refuted v real s r =
      let (j, f) = all_within M s r.inside (node p v).codes (λ x n. ok.members v x real n) r.all in
      none_below (suc v) v (omega arith) real j s (record { inside = r.inside; all = listed_fails M j s r.inside f })

  -- a root's members are its goal's, all in focus: no state refutes even one goal
  pub goal_not_refuted : Given c d → Claimed c d → (i : ℕ) → i < length c.goals → (s : ℕ) → s < m.size
      → ((e : ℕ) → Memᴰ e (goal c i) → M.false_at e s)
      → ⊥
  goal_not_refuted G C i k s h f = no_node_refuted (root d i) (root_real c d G i k) s (record { inside = h; all = root_false })
    where
      -- what the root lists has the formula of one of the goal's members
      root_false : listed p (root d i) ⊆ (λ x. M.false_at (entry_of_lem x) s)
      root_false x n =
          let (e, k, q) = (C i k).into (read t x) (x, n, refl) in
          let r : written t e ≡ written t (entry_of_lem x) = sym (ap (λ (z : Member). z.0) q ∙ ap (written t) (code_entry e 1 (omega arith))) in
          M.false_like e (entry_of_lem x) s h r (f e k)
