-- what going up from a refuted node means: a refuted back leaf below it, and the way to its companion
use Rattle.std.specs.Prelude.{◌≡◌, ℕ, ◌<◌, ◌≤◌, length}
use Rattle.std.proofs.Common.{subst}
use Rattle.formula.specs.Rule
use Rattle.verdict.specs.Sets.{⊆-trans}
use Rattle.formula.specs.Table.{Table}
use Rattle.formula.specs.Nodes.{Proof, node}
use Rattle.formula.specs.Claim.{Claim, Derivation}
use Rattle.calculus.specs.Sequents.{rule, sequent}
use Rattle.calculus.specs.Paths.{Path, stop, down, On, join, Ancestor}
use Rattle.calculus.specs.Rules.{BackLeaf}
use Rattle.calculus.specs.Loops.{GoodLoop}
use Rattle.calculus.specs.CorrectNodes.{CorrectNodes}
use Rattle.meaning.specs.States.{Model}
use Rattle.calculus.specs.Falsity.{Falsity}
use Rattle.calculus.specs.Refutes.{RefutesWithin}
use Rattle.calculus.specs.NodeStep.{Stepped}

-- a back leaf that some state refutes
pub record RefutedLeaf (c : Claim) {m : Model} (M : Falsity c.entries m) (d : Derivation) : Type 0 where
  pub leaf : ℕ
  pub inside : leaf < length d.nodes
  pub is_back : rule d.nodes leaf ≡ Rule.BACK
  pub keeps : BackLeaf c d leaf
  pub state : ℕ
  pub rank : ℕ
  pub refuted : RefutesWithin M rank state (sequent c.entries d.nodes leaf)

abbrev pub companion : {c : Claim} {m : Model} {M : Falsity c.entries m} {d : Derivation} → RefutedLeaf c M d → ℕ
companion {d} l = (node d.nodes l.leaf).back

-- what holds of v where it is refuted within j
pub record Reached (c : Claim) {m : Model} (M : Falsity c.entries m) (d : Derivation) (v j : ℕ) : Type 0 where
  pub to : RefutedLeaf c M d
  pub above : Ancestor d.nodes (companion to) v
  pub path : Path d.nodes v to.leaf
  pub bound : to.rank ≤ j
  pub box_falls : (x : ℕ) → On path x → rule d.nodes x ≡ Rule.BOX → to.rank < j

-- v is refuted once more, with fewer steps
pub record Again {t : Table} {m : Model} (M : Falsity t m) (p : Proof) (v j : ℕ) : Type 0 where
  pub state : ℕ
  pub rank : ℕ
  pub refuted : RefutesWithin M rank state (sequent t p v)
  pub fewer : rank < j

module _ (c : Claim) {m : Model} (M : Falsity c.entries m) (d : Derivation) where
  abbrev t : Table
  t = c.entries

  abbrev p : Proof
  p = d.nodes

  -- with a leaf its companion is refuted
  pub companion_refuted : (l : RefutedLeaf c M d) → RefutesWithin M l.rank l.state (sequent t p (companion l))
  companion_refuted l = record { inside = l.refuted.inside; all = ⊆-trans l.keeps.same.from l.refuted.all }

  -- from a child's leaf to the node's own
  module _ (ok : CorrectNodes c d) {v j : ℕ} (σ : Stepped M p v j) (ρ : Reached c M d σ.child σ.rank) where
    abbrev l : RefutedLeaf c M d
    l = ρ.to

    pub up : Path p (companion l) v
    up = subst (Path p (companion l)) (ok.tree.forest.one_parent ρ.above.edge σ.edge).0 ρ.above.above

    abbrev edge : Path p v σ.child
    edge = down stop σ.edge

    abbrev whole : Path p v l.leaf
    whole = join edge ρ.path

    pub loop : GoodLoop p (companion l) l.leaf (join up whole)
    loop = ok.loops l.leaf l.inside l.is_back (join up whole)

  module _ (ok : CorrectNodes c d) where
    -- for every node, from the last one down
    abbrev pub Statement : ℕ → Type 0
    Statement v = (j s : ℕ) → RefutesWithin M j s (sequent t p v) → Reached c M d v j
