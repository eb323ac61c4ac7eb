-- the judge refuses with a number at a place just when the tables earn that number there
use Rattle.std.specs.Prelude.{◌≡◌, refl, ◌≢◌, ◌⊎◌, ◌↔◌, Bool, ℕ, ◌<◌, length}
use Rattle.std.proofs.Common.{sym, ◌∙◌, ap, inl, inr, arith, eq-eqb, ne_eqb}
use Rattle.std.proofs.Math.Decide.{ℕ_discrete}
use Rattle.formula.specs.Rule
use Rattle.formula.specs.Nodes.{Proof}
use Rattle.formula.specs.Claim.{Claim, Derivation}
use Rattle.calculus.specs.Tree.{Forest, Trees}
use Rattle.calculus.specs.Sequents.{rule}
use Rattle.calculus.specs.Rules.{Keeps, back, by_tree}
use Rattle.calculus.specs.CorrectNodes.{CorrectNodes}
use Rattle.verdict.specs.Verdict.{Verdict, accepted, refused, scan}
use Rattle.calculus.specs.View.{plain}
use Rattle.calculus.specs.Judge.{children_fit, adopted, claimed, keeps, loop, rule_number, judge}
use Rattle.calculus.specs.Faults.{ChildrenFit, Adopted, GoodLeaf, Before, Earns, bad_child, orphan, other_root, rule_broken, bad_link, bad_loop}
use Rattle.calculus.specs.Goals.{ClaimedAt, Claimed}
use Rattle.calculus.specs.Given.{Given}
use Rattle.verdict.specs.Tells.{Tells, fails, fails_holds}
use Rattle.calculus.specs.Loops.{good_walk}
use Rattle.verdict.specs.VerdictLaws.{First, Passes, accepted_not_refused, scan_holds, scan_refuses, scan_first}
use Rattle.calculus.specs.TreeLaws.{children_fit_tells, adopted_tells, to_trees, tree_children, tree_adopted, child_real}
use Rattle.calculus.specs.ClimbLaws.{ancestor_path}
use Rattle.calculus.proofs.RuleLaws.{keeps_tells}
use Rattle.calculus.specs.GoalLaws.{claimed_nodes, claimed_roots}
use Rattle.calculus.proofs.Claimed.{claimed_tells}
use Rattle.calculus.specs.JudgeExact.{orphans_stage, claim_stage, rules_stage, loops_stage, judge_is, keeps_back, leaf_tells}
use Rattle.calculus.proofs.JudgeExact.{accepted_correct, correct_accepted}

-- the first number below n that lacks P
record Lacks (P : ℕ → Type 0) (n q : ℕ) : Type 0 where
  pub inside : q < n
  pub before : Before q P
  pub lacks : P q → ⊥

-- a scan whose test tells P, from 0 on
module _ {ok : ℕ → Bool} {P : ℕ → Type 0} (number : ℕ → ℕ) (n : ℕ) (x : (v : ℕ) → v < n → Tells (ok v) (P v)) (rest : Verdict) where
  all_scanned : Before n P → scan ok number n 0 rest ≡ rest
  all_scanned f = scan_holds ok number n 0 rest (λ w _ h. (x w (omega arith)).holds (f w (omega arith)))

  first_scanned : {q : ℕ} → Lacks P n q → scan ok number n 0 rest ≡ refused (number q) q
  first_scanned {q} l = scan_first ok number n 0 rest (record {
    inside = omega (arith, l.inside);
    bad = fails_holds (x q l.inside) l.lacks;
    numbered = refl;
    before = λ w _ h. (x w (omega (arith, l.inside))).holds (l.before w h);
  })

  scanned : {k q : ℕ} → scan ok number n 0 rest ≡ refused k q → ((number q ≡ k) × Lacks P n q) ⊎ (Before n P × (rest ≡ refused k q))
  scanned {k} {q} h = go (scan_refuses ok number n 0 rest h)
    where
      go : First ok number 0 n k q ⊎ (Passes ok 0 n × (rest ≡ refused k q)) → ((number q ≡ k) × Lacks P n q) ⊎ (Before n P × (rest ≡ refused k q))
      go (inl z) =
          let i : q < n = omega (arith, z.inside) in
          inl (z.numbered, record { inside = i; before = λ w b. (x w (omega arith)).says (z.before w (omega arith) b); lacks = fails (x q i) z.bad })
      go (inr (f, r)) = inr (λ w b. (x w b).says (f w (omega arith) (omega arith)), r)

number_back : (p : Proof) (v : ℕ) → rule p v ≡ Rule.BACK → rule_number (plain p) v ≡ 38
unfolding rule_number
number_back p v e = rw (eq-eqb (rule p v) Rule.BACK e) refl

number_other : (p : Proof) (v : ℕ) → rule p v ≢ Rule.BACK → rule_number (plain p) v ≡ 37
unfolding rule_number
number_other p v n = rw (ne_eqb (rule p v) Rule.BACK n) refl

module _ (c : Claim) (d : Derivation) (G : Given c d) where
  abbrev p : Proof
  p = d.nodes

  children_told : (v : ℕ) → v < length p → Tells (children_fit d.roots (plain p) v) (ChildrenFit d.roots p v)
  children_told v i = children_fit_tells d.roots p v i

  adopted_told : (v : ℕ) → v < length p → Tells (adopted d.roots (plain p) v) (Adopted d.roots p v)
  adopted_told v i = adopted_tells d.roots p v i

  claimed_told : (v : ℕ) → v < length p → Tells (claimed c.entries (plain p) c.goals d.roots v) (ClaimedAt c d v)
  claimed_told v i = claimed_tells c d G v i

  module _ (S : Trees d.roots p) where
    abbrev T : Forest p
    T = S.forest

    keeps_told : (v : ℕ) → v < length p → Tells (keeps c (plain p) v) (Keeps c d v)
    keeps_told v i = keeps_tells c d T G v i

    module _ (K : Before (length p) (Keeps c d)) where
      leaf_told : (v : ℕ) → v < length p → Tells (loop (plain p) v) (GoodLeaf p v)
      leaf_told v i = leaf_tells c d T v (K v i)

      loops_earn : Claimed c d → {k q : ℕ} → loops_stage c d ≡ refused k q → Earns c d k q
      loops_earn C {k} {q} h = go (scanned (λ _. 39) (length p) leaf_told accepted h)
        where
          bad : Lacks (GoodLeaf p) (length p) q → Dec (rule p q ≡ Rule.BACK) → Earns c d 39 q
          bad l (yes b) =
              let π = ancestor_path p T (keeps_back b (K q l.inside)).companion in
              bad_loop S C K l.inside l.before b π (λ g. l.lacks (λ _ ρ. good_walk T π g ρ))
          bad l (no n) = absurd (l.lacks (λ b. absurd (n b)))

          go : ((39 ≡ k) × Lacks (GoodLeaf p) (length p) q) ⊎ (Before (length p) (GoodLeaf p) × (accepted ≡ refused k q)) → Earns c d k q
          go (inl (e, l)) = rw (← e) (bad l (ℕ_discrete (rule p q) Rule.BACK))
          go (inr (f, r)) = absurd (accepted_not_refused (sym r))

    rules_earn : Claimed c d → {k q : ℕ} → rules_stage c d ≡ refused k q → Earns c d k q
    rules_earn C {k} {q} h = go (scanned (rule_number (plain p)) (length p) keeps_told (loops_stage c d) h)
      where
        bad : Lacks (Keeps c d) (length p) q → Dec (rule p q ≡ Rule.BACK) → Earns c d (rule_number (plain p) q) q
        bad l (yes b) = rw (number_back p q b) (bad_link S C l.inside l.before b (λ k. l.lacks (by_tree (back b k))))
        bad l (no n) = rw (number_other p q n) (rule_broken S C l.inside l.before n l.lacks)

        go : ((rule_number (plain p) q ≡ k) × Lacks (Keeps c d) (length p) q) ⊎ (Before (length p) (Keeps c d) × (loops_stage c d ≡ refused k q)) → Earns c d k q
        go (inl (e, l)) = rw (← e) (bad l (ℕ_discrete (rule p q) Rule.BACK))
        go (inr (f, r)) = loops_earn f C r

    claim_earn : {k q : ℕ} → claim_stage c d ≡ refused k q → Earns c d k q
    claim_earn {k} {q} h = go (scanned (λ _. 36) (length p) claimed_told (rules_stage c d) h)
      where
        go : ((36 ≡ k) × Lacks (ClaimedAt c d) (length p) q) ⊎ (Before (length p) (ClaimedAt c d) × (rules_stage c d ≡ refused k q)) → Earns c d k q
        go (inl (e, l)) = rw (← e) (other_root S l.inside l.before l.lacks)
        go (inr (f, r)) = rules_earn (claimed_roots c d G f) r

  -- no number lies
  pub refused_earned : {k q : ℕ} → judge c d ≡ refused k q → Earns c d k q
  refused_earned {k} {q} h = go (scanned (λ _. 35) (length p) children_told (orphans_stage c d) (rw (judge_is c d) at h))
    where
      next : Before (length p) (ChildrenFit d.roots p)
          → ((35 ≡ k) × Lacks (Adopted d.roots p) (length p) q) ⊎ (Before (length p) (Adopted d.roots p) × (claim_stage c d ≡ refused k q)) → Earns c d k q
      next f (inl (e, l)) = rw (← e) (orphan f l.inside l.before (λ z. l.lacks (inl z)) (λ v e. l.lacks (inr (v, child_real p e, e))))
      next f (inr (g, r)) = claim_earn (to_trees d.roots p f g) r

      go : ((35 ≡ k) × Lacks (ChildrenFit d.roots p) (length p) q) ⊎ (Before (length p) (ChildrenFit d.roots p) × (orphans_stage c d ≡ refused k q))
          → Earns c d k q
      go (inl (e, l)) = rw (← e) (bad_child l.inside l.before l.lacks)
      go (inr (f, r)) = next f (scanned (λ _. 35) (length p) adopted_told (claim_stage c d) r)

  -- and each is given where it is earned
  children_pass : Before (length p) (ChildrenFit d.roots p) → judge c d ≡ orphans_stage c d
  children_pass f = judge_is c d ∙ all_scanned (λ _. 35) (length p) children_told (orphans_stage c d) f

  tree_passes : Trees d.roots p → judge c d ≡ claim_stage c d
  tree_passes S =
      children_pass (tree_children d.roots p S) ∙ all_scanned (λ _. 35) (length p) adopted_told (claim_stage c d) (tree_adopted d.roots p S)

  claim_passes : Trees d.roots p → Claimed c d → judge c d ≡ rules_stage c d
  claim_passes S C = tree_passes S ∙ all_scanned (λ _. 36) (length p) claimed_told (rules_stage c d) (λ w _. claimed_nodes c d G C w)

  pub earned_refused : {k q : ℕ} → Earns c d k q → judge c d ≡ refused k q
  earned_refused (bad_child i b n) =
      judge_is c d ∙ first_scanned (λ _. 35) (length p) children_told (orphans_stage c d) (record { inside = i; before = b; lacks = n })
  earned_refused (orphan {q = q} f i b z n) =
      children_pass f ∙ first_scanned (λ _. 35) (length p) adopted_told (claim_stage c d) (record { inside = i; before = b; lacks = none })
    where
      none : Adopted d.roots p q → ⊥
      none (inl e) = z e
      none (inr (v, _, e)) = n v e
  earned_refused (other_root S i b n) =
      tree_passes S ∙ first_scanned (λ _. 36) (length p) claimed_told (rules_stage c d) (record { inside = i; before = b; lacks = n })
  earned_refused (rule_broken {q = q} S C i b n k) =
      claim_passes S C
      ∙ first_scanned (rule_number (plain p)) (length p) (keeps_told S) (loops_stage c d) (record { inside = i; before = b; lacks = k })
      ∙ ap (λ (m : ℕ). refused m q) (number_other p q n)
  earned_refused (bad_link {q = q} S C i b e k) =
      claim_passes S C
      ∙ first_scanned (rule_number (plain p)) (length p) (keeps_told S) (loops_stage c d) (record { inside = i; before = b; lacks = λ z. k (keeps_back e z) })
      ∙ ap (λ (m : ℕ). refused m q) (number_back p q e)
  earned_refused (bad_loop S C K i b e π n) =
      claim_passes S C
      ∙ all_scanned (rule_number (plain p)) (length p) (keeps_told S) (loops_stage c d) K
      ∙ first_scanned (λ _. 39) (length p) (leaf_told S K) accepted (record { inside = i; before = b; lacks = λ g. n (g e π) })

  pub exact_refusal : {k q : ℕ} → (judge c d ≡ refused k q) ↔ Earns c d k q
  exact_refusal = (refused_earned, earned_refused)

  -- every proof of tables is correct or earns one refusal
  pub outcome : (CorrectNodes c d × Claimed c d) ⊎ ((k : ℕ) × (q : ℕ) × Earns c d k q)
  outcome = go (judge c d) refl
    where
      go : (x : Verdict) → judge c d ≡ x → (CorrectNodes c d × Claimed c d) ⊎ ((k : ℕ) × (q : ℕ) × Earns c d k q)
      go accepted h = inl (accepted_correct c d G h)
      go (refused k q) h = inr (k, q, refused_earned h)

  pub one_refusal : {k q m r : ℕ} → Earns c d k q → Earns c d m r → (k ≡ m) × (q ≡ r)
  one_refusal {k} {q} {m} {r} x y =
      let h : refused k q ≡ refused m r = sym (earned_refused x) ∙ earned_refused y in
      ((cc), (cc))

  pub correct_earns_nothing : {k q : ℕ} → CorrectNodes c d → Claimed c d → Earns c d k q → ⊥
  correct_earns_nothing C R x = accepted_not_refused (sym (earned_refused x) ∙ correct_accepted c d G C R)
