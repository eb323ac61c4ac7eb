-- what the code keeps of loop paths, and what that tells
use Rattle.std.specs.Prelude.{◌≡◌, Bool, true, not, ◌&&◌, List, ℕ, ◌+◌, ◌<◌, ◌≤◌, eqb, ltb, leb, length, get_or}
use Rattle.verdict.specs.Tests.{choose, any, member}
use Rattle.verdict.specs.Verdict.{Verdict, accepted, scan}
use Rattle.formula.specs.Rule
use Rattle.formula.specs.Nodes.{Proof, node}
use Rattle.formula.specs.PlainNodes.{proof_of}
use Rattle.formula.specs.declared.NodeColumns.{NodeColumns}
use Rattle.calculus.specs.View.{plain}
use Rattle.calculus.specs.Judge.{ancestor, on_loop, good_path, loop}
use Rattle.tree.specs.Owners.{Owned}
use Rattle.spans.specs.Spans.{at_parent_lem}
use Rattle.spans.specs.declared.Owners.{Owners}
use Rattle.spans.specs.Climbs.{path}

-- a box; a node that may lie on a loop path, and one that may not
abbrev pub box : Proof → ℕ → Bool
box p v = eqb (node p v).rule Rule.BOX

abbrev pub passable : Proof → ℕ → Bool
passable p v = on_loop (node p v).rule (node p v).codes

abbrev pub barred : Proof → ℕ → Bool
barred p v = not (passable p v)

-- on a path from c down to w a node is marked just when the table's number at w lies above c
pub record Nearest (p : Proof) (marked : ℕ → Bool) (v : ℕ) (table : List ℕ) : Type 0 where
  pub most : (w : ℕ) → w < v → get_or table w 0 ≤ w + 1
  pub tells : (c w : ℕ) → w < v → member (path p c w) c ≡ true → any marked (path p c w) ≡ ltb c (get_or table w 0)

-- one more than the nearest marked node at or above v, 0 if there is none: from that of v's parent, if it has one
abbrev pub nearest_at : List ℕ → List ℕ → ℕ → Bool → ℕ
nearest_at owners table v marked = choose marked (v + 1) (at_parent_lem owners table v)

-- no barred node from c down to v, and a box
abbrev pub clear : List ℕ → List ℕ → ℕ → ℕ → Bool
clear bars boxes c v = leb (get_or bars v 0) c && ltb c (get_or boxes v 0)

-- the columns of a proof with the parents of its nodes, and the two tables
pub record Tabled (p : NodeColumns) (o : Owners) (bars boxes : List ℕ) : Type 0 where
  pub same : o.nodes ≡ p.tree.nodes
  pub room : (p.tree.nodes ≤ length bars) × (p.tree.nodes ≤ length boxes)
  pub within : (v : ℕ) → v < p.tree.nodes → get_or p.starts.now (v + 1) 0 ≤ length p.codes.now

-- the tables tell the path down to each node from each of its ancestors
pub record PathsTold (p : Proof) (bars boxes : List ℕ) : Type 0 where
  pub path_is : (c v : ℕ) → v < length p → ancestor (plain p) c v ≡ true → clear bars boxes c v ≡ good_path (plain p) (path p c v)

-- of every proof with these columns and parents
abbrev pub PathsFilled : List ℕ → List ℕ → List ℕ → ℕ → List ℕ → List ℕ → List ℕ → Type 0
PathsFilled rs ss cs n owners bars boxes = (ls : List ℕ) → Owned (proof_of rs ls ss cs n) n owners → PathsTold (proof_of rs ls ss cs n) bars boxes

abbrev pub Filled : NodeColumns → Owners → List ℕ → List ℕ → Type 0
Filled p o bars boxes = PathsFilled p.tree.rules.now p.starts.now p.codes.now p.tree.nodes o.table.now bars boxes

-- what refusal 38 has ensured before 39
abbrev pub Linked : Proof → Type 0
Linked p = (v : ℕ) → v < length p → (node p v).rule ≡ Rule.BACK → ancestor (plain p) (node p v).back v ≡ true

-- so the tables tell the loop path of each back leaf
pub record LeavesTold (p : Proof) (bars boxes : List ℕ) : Type 0 where
  pub leaf_is : (v : ℕ) → v < length p → (node p v).rule ≡ Rule.BACK → clear bars boxes (node p v).back v ≡ good_path (plain p) (path p (node p v).back v)

-- refusal 39: by rising leaf
abbrev pub loops_judged : Proof → Verdict
loops_judged p = scan (loop (plain p)) (λ _. 39) (length p) 0 accepted

-- what the code says of a leaf, and of all of them, whatever the sequents are
abbrev pub LeafJudged : List ℕ → List ℕ → List ℕ → List ℕ → ℕ → Bool → Type 0
LeafJudged rs ls bars boxes v answer =
    (ss cs : List ℕ) (n : ℕ) → v < n → LeavesTold (proof_of rs ls ss cs n) bars boxes → answer ≡ loop (plain (proof_of rs ls ss cs n)) v

abbrev pub LeavesJudged : List ℕ → List ℕ → ℕ → List ℕ → List ℕ → Verdict → Type 0
LeavesJudged rs ls n bars boxes answer = (ss cs : List ℕ) → LeavesTold (proof_of rs ls ss cs n) bars boxes → answer ≡ loops_judged (proof_of rs ls ss cs n)
