-- between a companion and its refuted leaf every node is one that a loop may hold
use Rattle.std.specs.Prelude.{ℕ}
use Rattle.formula.specs.Nodes.{Proof}
use Rattle.formula.specs.Claim.{Claim, Derivation}
use Rattle.calculus.specs.Paths.{Path, stop, down, join, on_middle}
use Rattle.calculus.specs.Loops.{OnLoop}
use Rattle.calculus.specs.CorrectNodes.{CorrectNodes}
use Rattle.meaning.specs.States.{Model}
use Rattle.calculus.specs.Falsity.{Falsity}
use Rattle.calculus.specs.NodeStep.{Stepped}
use Rattle.calculus.specs.Reached.{Reached, RefutedLeaf, loop, up}

module _ (c : Claim) {m : Model} (M : Falsity c.entries m) (d : Derivation) where
  abbrev p : Proof
  p = d.nodes

  -- from a child's leaf to the node's own
  module _ (ok : CorrectNodes c d) {v j : ℕ} (σ : Stepped M p v j) (ρ : Reached c M d σ.child σ.rank) where
    abbrev l : RefutedLeaf c M d
    l = ρ.to

    abbrev edge : Path p v σ.child
    edge = down stop σ.edge

    abbrev whole : Path p v l.leaf
    whole = join edge ρ.path

    pub on_loop : OnLoop p v
    on_loop = (loop c M d ok σ ρ).each v (on_middle (up c M d ok σ ρ) whole)
