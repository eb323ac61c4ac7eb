-- the table of owners that the code keeps: one more than the number of each node's parent, 0 while it has none
use Rattle.std.specs.Prelude.{◌≡◌, Bool, true, ◌&&◌, List, ℕ, ◌+◌, ◌<◌, ◌≤◌, eqb, ltb, length, get_or, set}
use Rattle.verdict.specs.Verdict.{accepted, scan}
use Rattle.verdict.specs.Verdict as verdicts
use Rattle.verdict.specs.Tests.{choose, member}
use Rattle.verdict.specs.Shown.{Answer, accepts, shown}
use Rattle.formula.specs.Nodes.{Proof}
use Rattle.formula.specs.PlainNodes.{proof_of}
use Rattle.calculus.specs.View.{owner, plain}
use Rattle.calculus.specs.Judge.{children_fit, adopted}

-- at first no node has an owner
abbrev pub Ownerless : List ℕ → ℕ → Type 0
Ownerless owners n = (w : ℕ) → w < n → get_or owners w 0 ≡ 0

-- w is a node above v, and has no owner
abbrev pub unowned : List ℕ → ℕ → ℕ → ℕ → Bool
unowned owners n v w = ltb v w && (ltb w n && eqb (get_or owners w 0) 0)

-- the table holds the owners among the nodes below v
pub record Owned (p : Proof) (v : ℕ) (owners : List ℕ) : Type 0 where
  pub room : length p ≤ length owners
  pub each : (w : ℕ) → w < length p → get_or owners w 0 ≡ owner p w v

-- a number that no owner has stands for each root while the owners are looked for
abbrev pub ROOT : ℕ
ROOT = 65535

-- the same with the roots marked
pub record Taken (roots : List ℕ) (p : Proof) (v : ℕ) (owners : List ℕ) : Type 0 where
  pub room : length p ≤ length owners
  pub each : (w : ℕ) → w < length p → get_or owners w 0 ≡ choose (member roots w) ROOT (owner p w v)

-- rules and links alone say who owns whom: the sequents are any
abbrev pub OwnedBy : List ℕ → List ℕ → ℕ → ℕ → List ℕ → Type 0
OwnedBy rs ls n v owners = (ss cs : List ℕ) → Owned (proof_of rs ls ss cs n) v owners

abbrev pub TakenBy : List ℕ → List ℕ → List ℕ → ℕ → ℕ → List ℕ → Type 0
TakenBy roots rs ls n v owners = (ss cs : List ℕ) → Taken roots (proof_of rs ls ss cs n) v owners

-- whether child w of v fits, and the table with it
pub record OneChild (before : List ℕ) (n v w : ℕ) (answer : Bool) (after : List ℕ) : Type 0 where
  pub answers : answer ≡ unowned before n v w
  pub marked : answer ≡ true → after ≡ set before w (v + 1)

-- what one parent's step answers, and the table that it leaves
pub record OneParent (roots rs ls : List ℕ) (n v : ℕ) (answer : Bool) (owners : List ℕ) : Type 0 where
  pub answers : (ss cs : List ℕ) → answer ≡ children_fit roots (plain (proof_of rs ls ss cs n)) v
  pub taken : answer ≡ true → TakenBy roots rs ls n (v + 1) owners

-- refusal 35: by rising parent, then by rising orphan
abbrev pub children_judged : List ℕ → Proof → verdicts.Verdict
children_judged roots p = scan (children_fit roots (plain p)) (λ _. 35) (length p) 0 accepted

abbrev pub orphans_judged : List ℕ → Proof → verdicts.Verdict
orphans_judged roots p = scan (adopted roots (plain p)) (λ _. 35) (length p) 0 accepted

abbrev pub tree_judged : List ℕ → Proof → verdicts.Verdict
tree_judged roots p = scan (children_fit roots (plain p)) (λ _. 35) (length p) 0 (orphans_judged roots p)

-- what a stage answers, and the table that it leaves while the roots are marked
pub record ChildrenTaken (stage : List ℕ → Proof → verdicts.Verdict) (roots rs ls : List ℕ) (n : ℕ) (answer : Answer) (owners : List ℕ) : Type 0 where
  pub answers : (ss cs : List ℕ) → shown answer ≡ stage roots (proof_of rs ls ss cs n)
  pub taken : answer ≡ accepts → TakenBy roots rs ls n n owners

-- and of a table where roots have no owner
pub record OwnersFilled (roots rs ls : List ℕ) (n : ℕ) (answer : Answer) (owners : List ℕ) : Type 0 where
  pub answers : (ss cs : List ℕ) → shown answer ≡ tree_judged roots (proof_of rs ls ss cs n)
  pub owned : answer ≡ accepts → OwnedBy rs ls n n owners

-- every parent of a node below n has a smaller number; a root has none
abbrev pub Parented : List ℕ → ℕ → Type 0
Parented owners n = (w : ℕ) → w < n → get_or owners w 0 ≤ w
