-- what 35 to 39 mean at a place, declaratively, in document 01's order
use Rattle.std.specs.Prelude.{◌≡◌, ◌≢◌, ◌⊎◌, List, ℕ, ◌<◌, ◌≤◌, length}
use Rattle.formula.specs.Rule
use Rattle.verdict.specs.Sets.{elements}
use Rattle.formula.specs.Nodes.{Proof, node}
use Rattle.formula.specs.Claim.{Claim, Derivation}
use Rattle.calculus.specs.Tree.{Child, Trees}
use Rattle.calculus.specs.Sequents.{rule}
use Rattle.calculus.specs.Paths.{Path}
use Rattle.calculus.specs.Goals.{ClaimedAt, Claimed}
use Rattle.calculus.specs.Rules.{Keeps, BackLeaf}
use Rattle.calculus.specs.Loops.{GoodLoop}

module _ (p : Proof) where
  abbrev pub HasFirst : ℕ → Type 0
  HasFirst v = (Rule.OR ≤ rule p v) × (rule p v ≤ Rule.D)

  -- every path from the companion of the back leaf l down to it is good
  abbrev pub GoodLeaf : ℕ → Type 0
  GoodLeaf l = rule p l ≡ Rule.BACK → (π : Path p (node p l).back l) → GoodLoop p (node p l).back l π

module _ (roots : List ℕ) (p : Proof) where
  -- child number w of v lies above v, is a node and no root, and is used by no earlier parent
  pub record FitChild (v w : ℕ) : Type 0 where
    pub above : v < w
    pub inside : w < length p
    pub unused : (u : ℕ) → u < v → Child p u w → ⊥
    pub no_root : elements roots w → ⊥

  pub record ChildrenFit (v : ℕ) : Type 0 where
    pub first_fits : HasFirst p v → FitChild v (node p v).first
    pub second_fits : rule p v ≡ Rule.AND → FitChild v (node p v).second
    pub differ : rule p v ≡ Rule.AND → (node p v).first ≢ (node p v).second

  abbrev pub Adopted : ℕ → Type 0
  Adopted w = elements roots w ⊎ ((v : ℕ) × (v < length p) × Child p v w)

-- all numbers before q
abbrev pub Before : ℕ → (ℕ → Type 0) → Type 0
Before q P = (w : ℕ) → w < q → P w

module _ (c : Claim) (d : Derivation) where
  abbrev p : Proof
  p = d.nodes

  abbrev roots : List ℕ
  roots = d.roots

  -- refusal k at place q
  pub data Earns : ℕ → ℕ → Type 0 where
    bad_child : {q : ℕ} → q < length p → Before q (ChildrenFit roots p) → (ChildrenFit roots p q → ⊥) → Earns 35 q
    orphan : {q : ℕ} → Before (length p) (ChildrenFit roots p) → q < length p → Before q (Adopted roots p)
        → (elements roots q → ⊥)
        → ((v : ℕ) → Child p v q → ⊥)
        → Earns 35 q
    other_root : {q : ℕ} → Trees roots p → q < length p → Before q (ClaimedAt c d) → (ClaimedAt c d q → ⊥) → Earns 36 q
    rule_broken : {q : ℕ} → Trees roots p → Claimed c d → q < length p → Before q (Keeps c d) → rule p q ≢ Rule.BACK → (Keeps c d q → ⊥) → Earns 37 q
    bad_link : {q : ℕ} → Trees roots p → Claimed c d → q < length p → Before q (Keeps c d) → rule p q ≡ Rule.BACK → (BackLeaf c d q → ⊥) → Earns 38 q
    bad_loop : {q : ℕ} → Trees roots p → Claimed c d → Before (length p) (Keeps c d) → q < length p → Before q (GoodLeaf p)
        → rule p q ≡ Rule.BACK
        → (π : Path p (node p q).back q)
        → (GoodLoop p (node p q).back q π → ⊥)
        → Earns 39 q
