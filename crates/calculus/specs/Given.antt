-- what a claim and its proof have passed when the proof is judged: the entries 20 to 23; members formulas; a root for each goal
use Rattle.std.specs.Prelude.{ℕ, ◌<◌, length}
use Rattle.verdict.specs.Sets.{elements}
use Rattle.formula.specs.Codes.{Formula, entry_of_lem}
use Rattle.formula.specs.Claim.{Claim, Derivation}
use Rattle.conditions.specs.WellFormed.{WellFormed}
use Rattle.calculus.specs.Sequents.{listed}
use Rattle.calculus.specs.Goals.{goal, Rooted}

pub record Given (c : Claim) (d : Derivation) : Type 0 where
  pub well : WellFormed c.entries
  pub claimed : (i e : ℕ) → i < length c.goals → elements (goal c i) e → Formula c.entries e
  pub rooted : Rooted c d
  pub members : (v x : ℕ) → v < length d.nodes → listed d.nodes v x → Formula c.entries (entry_of_lem x)
