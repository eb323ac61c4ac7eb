-- the judge stage by stage, as the program runs it: 35, 36, 37 and 38, 39
use Rattle.std.specs.Prelude.{◌≡◌, Bool, true, false, ◌&&◌, List, ℕ, ◌+◌, ◌*◌, ◌<◌, ◌≤◌, length, get_or}
use Rattle.std.proofs.Math.Path.{refl}
use Rattle.std.proofs.Common.{sym, ap, ap₂, ◌∙◌, arith}
use Rattle.std.proofs.Math.Decide.{ℕ_discrete}
use borrow.Author.Tests.{eq-eqb, ne_eqb}
use Rattle.verdict.specs.Verdict.{Verdict, accepted, refused, scan}
use Rattle.verdict.specs.Shown.{accepts}
use Rattle.verdict.specs.VerdictLaws.{scan_says}
use Rattle.verdict.specs.Tests.{same, each}
use Rattle.formula.specs.Rule
use Rattle.formula.specs.Claim.{Claim, Derivation}
use Rattle.formula.specs.Plain.{table_of}
use Rattle.formula.specs.Nodes.{Proof, node}
use Rattle.formula.specs.NodeColumns.{Columns}
use Rattle.formula.specs.PlainNodes.{codes_at_lem, proof_of, proof_of_length, proof_of_rule, proof_of_back}
use Rattle.conditions.specs.WellFormed.{WellFormed}
use Rattle.written.specs.Canon.{key}
use Rattle.calculus.specs.Tree.{Forest}
use Rattle.calculus.specs.View.{plain}
use Rattle.calculus.specs.Judge.{codes, keys, step_kept, keeps, rule_number, ancestor, back_kept, claimed, judge}
use Rattle.calculus.specs.Steps.{keeps_leaf, keeps_other}
use Rattle.calculus.specs.JudgeExact.{judge_is, claim_stage, rules_stage, loops_stage}
use Rattle.verdict.specs.ScanLaws.{Passed, scan_passes, after, scan_then}
use Rattle.verdict.proofs.ScanLaws.{scan_fails}
use Rattle.tree.specs.Owners.{Ownerless, OwnersFilled, tree_judged}
use Rattle.tree.specs.TreeStages.{tree_then, accepted_trees}
use Rattle.spans.specs.Spans.{CountedOnce}
use Rattle.spans.specs.Ancestors.{AncestorsTold}
use Rattle.companions.specs.Companions.{Companion, companion_fits}
use Rattle.companions.specs.CompanionLaws.{back_kept_is}
use Rattle.loops.specs.Paths.{Linked, loops_judged}
use Rattle.sequents.specs.Keys.{Numbers}
use Rattle.goals.specs.Goals.{goals_judged}
use Rattle.sequents.specs.Placed.{Formulas}
use Rattle.principal_rules.specs.Judged.{Judged, codes_is}

-- 37 or 38 by rising node
abbrev pub rules_judged : Claim → Proof → Verdict
rules_judged c p = scan (keeps c (plain p)) (rule_number (plain p)) (length p) 0 accepted

-- those, and then 39 by rising leaf
abbrev pub nodes_judged : Claim → Proof → Verdict
nodes_judged c p = after (rules_judged c p) (loops_judged p)

-- 36, then those
abbrev pub tree_rules_judged : Claim → Derivation → Verdict
tree_rules_judged c d = after (goals_judged c d.roots d.nodes) (nodes_judged c d.nodes)

pub judge_stages : (c : Claim) (d : Derivation) → judge c d ≡ after (tree_judged d.roots d.nodes) (tree_rules_judged c d)
judge_stages c d =
    judge_is c d
    ∙ tree_then d.roots d.nodes (claim_stage c d)
    ∙ ap (after (tree_judged d.roots d.nodes))
    (scan_then (claimed c.entries (plain d.nodes) c.goals d.roots) (λ _. 36) (length d.nodes) 0 (rules_stage c d)
    ∙ ap (after (goals_judged c d.roots d.nodes)) (scan_then (keeps c (plain d.nodes)) (rule_number (plain d.nodes)) (length d.nodes) 0 (loops_stage c d)))

-- tables that have passed 20 to 35, with the numbers that tell the ancestors
pub record TreeReady (ks xs ys ns : List ℕ) (n : ℕ) (rs ls ss cs : List ℕ) (m : ℕ) (entries exits : List ℕ) : Type 0 where
  pub judged : Judged ks xs ys ns n rs ls ss cs m
  pub room : (m ≤ length entries) × (m ≤ length exits)
  pub told : AncestorsTold (proof_of rs ls ss cs m) entries exits

module _ {ks xs ys ns : List ℕ} {n : ℕ} {rs ls ss cs : List ℕ} {m : ℕ} (J : Judged ks xs ys ns n rs ls ss cs m) (c : Claim) (v : ℕ) (real : v < m) where
  abbrev p : Proof
  p = proof_of rs ls ss cs m

  rule_is : (node p v).rule ≡ get_or rs v 0
  rule_is = proof_of_rule rs ls ss cs m v real

  back_is : (node p v).back ≡ get_or ls (4 * v + 3) 0
  back_is = proof_of_back rs ls ss cs m v real

  -- a back leaf keeps its rule when its companion fits and has its sequent
  pub leaf_keeps : get_or rs v 0 ≡ Rule.BACK → keeps c (plain p) v ≡ (companion_fits p v && same (keys c.entries (plain p) v) (keys c.entries (plain p) (node p v).back))
  leaf_keeps e = keeps_leaf c (plain p) v (rule_is ∙ e) ∙ back_kept_is c.entries p v

  pub leaf_without : get_or rs v 0 ≡ Rule.BACK → companion_fits p v ≡ false → keeps c (plain p) v ≡ false
  leaf_without e h = leaf_keeps e ∙ rw h refl

  pub leaf_with : get_or rs v 0 ≡ Rule.BACK → companion_fits p v ≡ true → get_or ls (4 * v + 3) 0 < m
      → keeps c (plain p) v ≡ same (each (key c.entries) (codes_at_lem ss cs v)) (each (key c.entries) (codes_at_lem ss cs (get_or ls (4 * v + 3) 0)))
  unfolding keys
  leaf_with e h l =
      leaf_keeps e
      ∙ rw h (ap₂ {C = Bool} (λ x y. same (each (key c.entries) x) (each (key c.entries) y))
      (codes_is J v real) (ap (λ (w : ℕ). codes (plain p) w) back_is ∙ codes_is J (get_or ls (4 * v + 3) 0) l))

  -- any other node keeps it when it keeps what it owes its children
  pub other_keeps : (get_or rs v 0 ≡ Rule.BACK → ⊥) → step_kept c.entries (plain p) v ≡ keeps c (plain p) v
  other_keeps n = sym (keeps_other c (plain p) v (λ e. n (sym rule_is ∙ e)))

  -- the number that a node earns
  pub number_leaf : get_or rs v 0 ≡ Rule.BACK → rule_number (plain p) v ≡ 38
  unfolding rule_number
  number_leaf e = rw (rule_is, eq-eqb (get_or rs v 0) Rule.BACK e) refl

  pub number_other : (get_or rs v 0 ≡ Rule.BACK → ⊥) → rule_number (plain p) v ≡ 37
  unfolding rule_number
  number_other e = rw (rule_is, ne_eqb (get_or rs v 0) Rule.BACK e) refl

-- what the reader and the table's judge have ensured before 35
pub record Laid (ks xs ys : List ℕ) (n : ℕ) (rs ls ss cs : List ℕ) (m : ℕ) : Type 0 where
  pub entries : n ≤ 256
  pub columns : Columns m rs ls ss cs
  pub rising : (v : ℕ) → v < m → (get_or ss v 0 ≤ get_or ss (v + 1) 0) × (get_or ss (v + 1) 0 ≤ length cs)
  pub well : WellFormed (table_of ks xs ys n)
  pub members : (v : ℕ) → v < m → Formulas (table_of ks xs ys n) (codes_at_lem ss cs v)

-- tables of the judge's own, as they are before it begins
pub record Fresh (m : ℕ) (owners entries exits : List ℕ) : Type 0 where
  pub room : m ≤ length owners
  pub ownerless : Ownerless owners m
  pub once : CountedOnce m entries exits

pub laid_judged : {ks xs ys ns : List ℕ} {n : ℕ} {rs ls ss cs : List ℕ} {m : ℕ}
    → Laid ks xs ys n rs ls ss cs m → Numbers (table_of ks xs ys n) ns → Forest (proof_of rs ls ss cs m) → Judged ks xs ys ns n rs ls ss cs m
laid_judged L N T = record { entries = L.entries; columns = L.columns; rising = L.rising; well = L.well; numbers = N; members = L.members; tree = T }

module _ {ks xs ys ns : List ℕ} {n : ℕ} {rs ls ss cs : List ℕ} {m : ℕ} {entries exits : List ℕ} (R : TreeReady ks xs ys ns n rs ls ss cs m entries exits) (c : Claim) (v : ℕ) (real : v < m)
    (leaf : get_or rs v 0 ≡ Rule.BACK) {answer : Bool} (companion : Companion rs ls entries exits v answer) where
  fits-is : answer ≡ companion_fits (proof_of rs ls ss cs m) v
  fits-is = companion.fits ss cs m real R.told

  pub leaf_refused : answer ≡ false → keeps c (plain (proof_of rs ls ss cs m)) v ≡ false
  leaf_refused h = leaf_without R.judged c v real leaf (sym fits-is ∙ h)

  -- the companion lies above the leaf, so it is a node
  pub companion_inside : answer ≡ true → get_or ls (4 * v + 3) 0 < m
  companion_inside h = omega (arith, companion.above h)

  pub leaf_compared : answer ≡ true → keeps c (plain (proof_of rs ls ss cs m)) v
      ≡ same (each (key c.entries) (codes_at_lem ss cs v)) (each (key c.entries) (codes_at_lem ss cs (get_or ls (4 * v + 3) 0)))
  leaf_compared h = leaf_with R.judged c v real leaf (sym fits-is ∙ h) (companion_inside h)

-- the scan of 37 and 38 as a loop walks it
module _ {ks xs ys ns : List ℕ} {n : ℕ} {rs ls ss cs : List ℕ} {m : ℕ} (J : Judged ks xs ys ns n rs ls ss cs m) (c : Claim) (v : ℕ) where
  pub rules_pass : m ≤ v → Passed (keeps c (plain (proof_of rs ls ss cs m))) v → rules_judged c (proof_of rs ls ss cs m) ≡ accepted
  rules_pass h f = scan_passes _ (rule_number (plain (proof_of rs ls ss cs m))) _ accepted (λ w l. f w (omega (arith, proof_of_length rs ls ss cs m)))

  -- the number by the rule
  pub rules_fail : (number : ℕ) → (get_or rs v 0 ≡ Rule.BACK → number ≡ 38) → ((get_or rs v 0 ≡ Rule.BACK → ⊥) → number ≡ 37)
      → v < m → Passed (keeps c (plain (proof_of rs ls ss cs m))) v → keeps c (plain (proof_of rs ls ss cs m)) v ≡ false
      → rules_judged c (proof_of rs ls ss cs m) ≡ refused number v
  rules_fail number leaf other real f bad =
      scan_fails _ (rule_number (plain (proof_of rs ls ss cs m))) _ accepted v (omega (arith, proof_of_length rs ls ss cs m)) f bad
      ∙ ap (λ (k : ℕ). refused k v) (number_is (ℕ_discrete (get_or rs v 0) Rule.BACK))
    where
      number_is : Dec (get_or rs v 0 ≡ Rule.BACK) → rule_number (plain (proof_of rs ls ss cs m)) v ≡ number
      number_is (yes e) = number_leaf J c v real e ∙ sym (leaf e)
      number_is (no e) = number_other J c v real e ∙ sym (other e)

-- and then 39
module _ (c : Claim) (p : Proof) where
  pub nodes_refused : {k q : ℕ} → rules_judged c p ≡ refused k q → nodes_judged c p ≡ refused k q
  nodes_refused h = rw h refl

  pub nodes_passed : rules_judged c p ≡ accepted → nodes_judged c p ≡ loops_judged p
  nodes_passed h = rw h refl

-- where 37 and 38 have passed, each back leaf is linked to an ancestor
pub rules_linked : (c : Claim) (p : Proof) → rules_judged c p ≡ accepted → Linked p
unfolding back_kept
rules_linked c p h v real e =
    let kept = (scan_says (keeps c (plain p)) (rule_number (plain p)) (length p) 0 accepted h).0 v (omega arith) (omega arith) in
    former (ancestor (plain p) (node p v).back v) _ (sym (keeps_leaf c (plain p) v e) ∙ kept)
  where
    former : (a b : Bool) → (a && b) ≡ true → a ≡ true
    former true b q = refl
    former false b q = q

-- 36 to 39 by what each stage found
module _ (c : Claim) (d : Derivation) where
  pub goals_bad : {k q : ℕ} → goals_judged c d.roots d.nodes ≡ refused k q → tree_rules_judged c d ≡ refused k q
  goals_bad h = rw h refl

  pub goals_good : goals_judged c d.roots d.nodes ≡ accepted → tree_rules_judged c d ≡ nodes_judged c d.nodes
  goals_good h = rw h refl

-- what accepted trees give to the stages after them
module _ {roots rs ls : List ℕ} {m : ℕ} {owners : List ℕ} (filled : OwnersFilled roots rs ls m accepts owners) where
  pub filled_tree : (ss cs : List ℕ) → tree_judged roots (proof_of rs ls ss cs m) ≡ accepted
  filled_tree ss cs = sym (filled.answers ss cs)

  pub filled_judged : {ks xs ys ns : List ℕ} {n : ℕ} {ss cs : List ℕ} → Laid ks xs ys n rs ls ss cs m → Numbers (table_of ks xs ys n) ns → Judged ks xs ys ns n rs ls ss cs m
  filled_judged {ss = ss} {cs = cs} L N = laid_judged L N (accepted_trees roots (proof_of rs ls ss cs m) (filled_tree ss cs)).forest
