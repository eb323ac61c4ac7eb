-- goals and roots in plain numbers, and refusal 36 over them
use Rattle.std.specs.Prelude.{List, ℕ, ◌<◌, ◌≤◌, length, get_or, take}
use Rattle.verdict.specs.Lists.{Rising}
use Rattle.verdict.specs.Sets.{elements}
use Rattle.verdict.specs.Verdict.{Verdict, accepted, scan}
use Rattle.formula.specs.Table.{Table}
use Rattle.formula.specs.Codes.{entry_of_lem}
use Rattle.formula.specs.Claim.{Claim}
use Rattle.formula.specs.Nodes.{Proof}
use Rattle.formula.specs.Held.{GoalsHeld}
use Rattle.formula.specs.PlainNodes.{codes_at_lem}
use Rattle.calculus.specs.View.{plain}
use Rattle.calculus.specs.Judge.{claimed}
use Rattle.sequents.specs.Keys.{Numbers}

-- 36 by rising root
abbrev pub goals_judged : Claim → List ℕ → Proof → Verdict
goals_judged c roots p = scan (claimed c.entries (plain p) c.goals roots) (λ _. 36) (length p) 0 accepted

-- the members of k goals, entries of a table of n
pub record GoalsPlaced (n : ℕ) (gs ms : List ℕ) (k : ℕ) : Type 0 where
  pub held : GoalsHeld gs ms k
  pub inside : (i : ℕ) → i < k → (e : ℕ) → elements (codes_at_lem gs ms i) e → e < n

-- k roots, strictly rising, each a node
pub record RootsRising (os : List ℕ) (k n : ℕ) : Type 0 where
  pub few : k ≤ 16
  pub long : k ≤ length os
  pub rising : Rising (take k os)
  pub inside : (i : ℕ) → i < k → get_or os i 0 < n

-- both, over a table of n entries and m nodes
pub record Goals (n : ℕ) (gs ms : List ℕ) (k : ℕ) (os : List ℕ) (m : ℕ) : Type 0 where
  pub placed : GoalsPlaced n gs ms k
  pub roots : RootsRising os k m

-- what is asked of a table for k goals and m nodes: the column has its numbers, and members and codes name its entries
pub record GoalsOver (t : Table) (ns gs ms : List ℕ) (k : ℕ) (ss cs : List ℕ) (m : ℕ) : Type 0 where
  pub numbers : Numbers t ns
  pub members : (i : ℕ) → i < k → (e : ℕ) → elements (codes_at_lem gs ms i) e → e < length t
  pub codes : (v : ℕ) → v < m → (c : ℕ) → elements (codes_at_lem ss cs v) c → entry_of_lem c < length t
