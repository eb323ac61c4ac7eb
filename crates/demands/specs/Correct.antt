-- a correct proof of a claim, and an irrefutable claim, read off the two files
use Rattle.std.specs.Prelude.{◌≡◌, List, true, false, ℕ, ◌<◌, length}
use Rattle.verdict.specs.Sets.{elements, ◌⊆◌}
use Rattle.formula.specs.Table.{Table}
use Rattle.formula.specs.Claim.{Claim, Derivation}
use Rattle.meaning.specs.States.{Model}
use Rattle.meaning.specs.Meaning.{own}
use Rattle.calculus.specs.Tree.{Trees}
use Rattle.calculus.specs.Rules.{Keeps}
use Rattle.calculus.specs.Loops.{GoodLoops}
use Rattle.calculus.specs.Goals.{goal, Claimed}
use Rattle.reader.specs.Files.{Files}
use Rattle.reader.specs.WellFormed.{ClaimFormed, WellFormed}

-- the bytes earn none of 10 to 36, and keep every rule: none of 37 to 39 either. In 36 to 38 members are compared by formula (T-03): a list stands
-- for the set of its formulas, with focus (calculus: Sequents)
pub record Correct (claim proof : List ℕ) : Type 0 where
  pub read : Files Derivation
  -- 10 to 34
  pub formed : WellFormed claim proof read
  -- 35: one tree for each root
  pub tree : Trees read.beside.roots read.beside.nodes
  -- 36: each root's members are its goal's, all in focus
  pub root : Claimed read.claim read.beside
  -- 37 and 38
  pub keeps : (v : ℕ) → v < length read.beside.nodes → Keeps read.claim read.beside v
  -- 39
  pub loops : GoodLoops read.beside.nodes

-- a state refutes a list of members when each of them, by itself, is false there
abbrev pub Refutes : Model → Table → ℕ → List ℕ → Type 0
Refutes M t s ms = elements ms ⊆ (λ e. own M t e s ≡ false)

-- goal by goal: in every finite model, of any number of states, every state has a member of the goal that is true there, so no state refutes
-- even one goal
pub record Irrefutable (claim : List ℕ) : Type 0 where
  pub read : Claim
  -- 10 to 23: the claim is well formed
  pub formed : ClaimFormed claim read
  pub some_true : (i : ℕ) → i < length read.goals → (M : Model) (s : ℕ) → s < M.size
      → (e : ℕ) × elements (goal read i) e × (own M read.entries e s ≡ true)
  pub none_refutes : (i : ℕ) → i < length read.goals → (M : Model) (s : ℕ) → s < M.size → Refutes M read.entries s (goal read i) → ⊥
