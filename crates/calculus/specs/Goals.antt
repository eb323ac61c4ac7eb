-- the goals of a claim and the roots of a proof: goal i is proved at root i
use Rattle.std.specs.Prelude.{◌≡◌, List, [], ℕ, ◌<◌, length, get_or}
use Rattle.verdict.specs.Lists.{Rising}
use Rattle.verdict.specs.Sets.{Set, Same, elements, image}
use Rattle.formula.specs.Table.{Table}
use Rattle.formula.specs.Codes.{code}
use Rattle.formula.specs.Claim.{Claim, Derivation}
use Rattle.calculus.specs.Sequents.{Member, read, sequent}

-- the members of goal i, and the number of its root
abbrev pub goal : Claim → ℕ → List ℕ
goal c i = get_or c.goals i []

abbrev pub root : Derivation → ℕ → ℕ
root d i = get_or d.roots i 0

-- members, all in focus
abbrev pub focused : Table → List ℕ → Set Member
focused t ms = image (λ e. read t (code e 1)) (elements ms)

module _ (c : Claim) (d : Derivation) where
  -- what the reader has ensured of the roots: as many as goals, strictly rising, each a node
  pub record Rooted : Type 0 where
    pub as_many : length d.roots ≡ length c.goals
    pub rising : Rising d.roots
    pub inside : (r : ℕ) → elements d.roots r → r < length d.nodes

  -- if node v is the root of a goal, its members are the goal's, all in focus
  abbrev pub ClaimedAt : ℕ → Type 0
  ClaimedAt v = (i : ℕ) → i < length c.goals → root d i ≡ v → Same (sequent c.entries d.nodes v) (focused c.entries (goal c i))

  -- each root's members are its goal's, all in focus
  abbrev pub Claimed : Type 0
  Claimed = (i : ℕ) → i < length c.goals → Same (sequent c.entries d.nodes (root d i)) (focused c.entries (goal c i))
