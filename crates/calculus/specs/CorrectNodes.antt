-- a proof that keeps every rule, over a claim
use Rattle.std.specs.Prelude.{ℕ, ◌<◌, length}
use Rattle.formula.specs.Codes.{Formula, entry_of_lem}
use Rattle.formula.specs.Claim.{Claim, Derivation}
use Rattle.calculus.specs.Tree.{Trees}
use Rattle.calculus.specs.Sequents.{listed}
use Rattle.calculus.specs.Rules.{Keeps}
use Rattle.calculus.specs.Loops.{GoodLoops}

pub record CorrectNodes (c : Claim) (d : Derivation) : Type 0 where
  pub members : (v x : ℕ) → v < length d.nodes → listed d.nodes v x → Formula c.entries (entry_of_lem x)
  pub tree : Trees d.roots d.nodes
  pub keeps : (v : ℕ) → v < length d.nodes → Keeps c d v
  pub loops : GoodLoops d.nodes
