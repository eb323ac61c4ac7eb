-- refusal 35 as the code's loops find it, and what accepted trees give the walks up
use Rattle.std.specs.Prelude.{◌≡◌, Bool, ◌||◌, List, [], ℕ, ◌+◌, ◌<◌, ◌≤◌, length, get_or, take}
use Rattle.std.proofs.Math.Path.{refl, sym}
use Rattle.std.proofs.Common.{ap, ◌∙◌, arith, below_more, lt-ltb, le-ltb}
use Rattle.std.proofs.Math.Bool.{true, false}
use Rattle.std.proofs.Math.Decide.{ℕ_discrete}
use Rattle.std.proofs.Math.Dec.{ltb}
use Rattle.verdict.specs.Verdict.{accepted, refused, scan}
use Rattle.verdict.specs.Verdict as verdicts
use Rattle.verdict.specs.VerdictLaws.{scan_says}
use Rattle.verdict.specs.Shown.{Answer, accepts, refuses, shown}
use Rattle.verdict.specs.Tests.{choose, member}
use Rattle.verdict.specs.SetTells.{member_tells}
use Rattle.formula.specs.Nodes.{Proof}
use Rattle.formula.specs.PlainNodes.{proof_of, proof_of_length}
use Rattle.calculus.specs.Tree.{Forest, Trees}
use Rattle.calculus.specs.View.{owner, plain}
use Rattle.calculus.specs.Judge.{children_fit, adopted, parent}
use Rattle.calculus.specs.TreeLaws.{children_fit_tells, adopted_tells, to_trees, parent_child}
use Rattle.verdict.specs.ScanLaws.{Passed, scan_passes, after, scan_then}
use Rattle.verdict.proofs.ScanLaws.{scan_fails}
use Rattle.tree.specs.Owners.{ROOT, Owned, Taken, TakenBy, OneParent, children_judged, orphans_judged, tree_judged, ChildrenTaken, OwnersFilled, Parented}
use Rattle.tree.specs.Stamps.{Stamped, stamped_is}

module _ (roots rs ls : List ℕ) (n : ℕ) where
  -- the children of all nodes below v fit
  abbrev pub FitBelow : ℕ → Type 0
  FitBelow v = (ss cs : List ℕ) → Passed (children_fit roots (plain (proof_of rs ls ss cs n))) v

  module _ {v : ℕ} {x : Bool} {left : List ℕ} (f : FitBelow v) (step : OneParent roots rs ls n v x left) where
    pub fit_more : x ≡ true → FitBelow (v + 1)
    fit_more e ss cs = below_more (λ w. children_fit roots (plain (proof_of rs ls ss cs n)) w ≡ true) v (f ss cs) (sym (step.answers ss cs) ∙ e)

    pub children_refused : v < n → x ≡ false → ChildrenTaken children_judged roots rs ls n (refuses 35 v) left
    children_refused h e = record {
      answers = λ ss cs. sym (scan_fails _ (λ _. 35) _ accepted v (omega (arith, proof_of_length rs ls ss cs n)) (f ss cs) (sym (step.answers ss cs) ∙ e));
      taken = λ z. absurd (let q : ◌≡◌ {A = ℕ} 0 1 = cc in omega arith);
    }

  pub children_accepted : {v : ℕ} {owners : List ℕ} → n ≤ v → v ≤ n → FitBelow v → TakenBy roots rs ls n v owners → ChildrenTaken children_judged roots rs ls n accepts owners
  children_accepted {v} {owners} h k f o =
      let e : v ≡ n = omega arith in
      record {
        answers = λ ss cs. sym (scan_passes _ (λ _. 35) _ accepted (λ w i. f ss cs w (omega (arith, proof_of_length rs ls ss cs n))));
        taken = λ _. rw e at o;
      }

-- no orphan among the nodes below w
abbrev pub NoOrphan : List ℕ → ℕ → Type 0
NoOrphan owners w = (k : ℕ) → k < w → 0 < get_or owners k 0

module _ (roots : List ℕ) (p : Proof) (n : ℕ) (owners : List ℕ) (size : length p ≡ n) (O : Taken roots p n owners) where
  adopted_is : (w : ℕ) → w < n → adopted roots (plain p) w ≡ ltb 0 (get_or owners w 0)
  unfolding adopted
  adopted_is w h = rw (O.each w (omega arith), size) (go (member roots w))
    where
      go : (b : Bool) → (b || ltb 0 (owner p w n)) ≡ ltb 0 (choose b ROOT (owner p w n))
      go true = sym (lt-ltb 0 ROOT (omega arith))
      go false = refl

  adopted_below : (w : ℕ) → w ≤ n → NoOrphan owners w → Passed (adopted roots (plain p)) w
  adopted_below w h f k i = adopted_is k (omega arith) ∙ lt-ltb 0 (get_or owners k 0) (f k i)

  pub orphan_found : (w : ℕ) → w < n → NoOrphan owners w → get_or owners w 0 ≡ 0 → orphans_judged roots p ≡ refused 35 w
  orphan_found w h f e =
      scan_fails (adopted roots (plain p)) (λ _. 35) (length p) accepted w (omega arith) (adopted_below w (omega arith) f)
      (adopted_is w h ∙ le-ltb 0 (get_or owners w 0) (omega arith))

  pub none_found : NoOrphan owners n → orphans_judged roots p ≡ accepted
  none_found f = scan_passes (adopted roots (plain p)) (λ _. 35) (length p) accepted (λ w h. adopted_below n (omega arith) f w (omega arith))

-- the children, then the orphans
pub tree_then : (roots : List ℕ) (p : Proof) (rest : verdicts.Verdict)
    → scan (children_fit roots (plain p)) (λ _. 35) (length p) 0 (scan (adopted roots (plain p)) (λ _. 35) (length p) 0 rest) ≡ after (tree_judged roots p) rest
tree_then roots p rest =
    scan_then (children_fit roots (plain p)) (λ _. 35) (length p) 0 (scan (adopted roots (plain p)) (λ _. 35) (length p) 0 rest)
    ∙ rw (scan_then (adopted roots (plain p)) (λ _. 35) (length p) 0 rest, scan_then (children_fit roots (plain p)) (λ _. 35) (length p) 0 (orphans_judged roots p))
    (twice (children_judged roots p) (orphans_judged roots p))
  where
    twice : (x y : verdicts.Verdict) → after x (after y rest) ≡ after (after x y) rest
    twice accepted y = refl
    twice (refused k q) y = refl

module _ (roots rs ls owners : List ℕ) (n : ℕ) where
  pub tree_refused : (k q : ℕ) → ChildrenTaken children_judged roots rs ls n (refuses k q) owners → ChildrenTaken tree_judged roots rs ls n (refuses k q) owners
  tree_refused k q f = record {
    answers = λ ss cs. sym (scan_then _ (λ _. 35) _ 0 (orphans_judged roots (proof_of rs ls ss cs n)) ∙ rw (← f.answers ss cs) refl);
    taken = λ z. absurd (let q : ◌≡◌ {A = ℕ} 0 1 = cc in omega arith);
  }

  pub tree_orphans : (x : Answer) → ChildrenTaken children_judged roots rs ls n accepts owners
      → ((p : Proof) → length p ≡ n → Taken roots p n owners → shown x ≡ orphans_judged roots p)
      → ChildrenTaken tree_judged roots rs ls n x owners
  tree_orphans x f o = record {
    answers = λ ss cs.
        o _ (proof_of_length rs ls ss cs n) (f.taken refl ss cs)
        ∙ sym (scan_then _ (λ _. 35) _ 0 (orphans_judged roots (proof_of rs ls ss cs n)) ∙ rw (← f.answers ss cs) refl);
    taken = λ _. f.taken refl;
  }

module _ (roots : List ℕ) (p : Proof) where
  -- what 35 lets pass is one tree for each root
  pub accepted_trees : tree_judged roots p ≡ accepted → Trees roots p
  accepted_trees h =
      let (fit, k) = scan_says (children_fit roots (plain p)) (λ _. 35) (length p) 0 (orphans_judged roots p) h in
      let (adopt, _) = scan_says (adopted roots (plain p)) (λ _. 35) (length p) 0 accepted k in
      to_trees roots p (λ v i. (children_fit_tells roots p v i).says (fit v (omega arith) (omega arith)))
      (λ w i. (adopted_tells roots p w i).says (adopt w (omega arith) (omega arith)))

  -- a root has no owner
  pub root_ownerless : Trees roots p → (w : ℕ) → w < length p → member roots w ≡ true → owner p w (length p) ≡ 0
  root_ownerless T w h m = go (ℕ_discrete (owner p w (length p)) 0)
    where
      go : Dec (owner p w (length p) ≡ 0) → owner p w (length p) ≡ 0
      go (yes e) = e
      go (no n) = absurd (T.no_root (parent_child p w h (omega arith)) ((member_tells roots w).says m))

-- the marks are cleared once the trees are found
pub owners_filled : (rs ls : List ℕ) (n : ℕ) {os : List ℕ} {k : ℕ} {x : Answer} {before after : List ℕ} → k ≤ length os
    → ChildrenTaken tree_judged (take k os) rs ls n x before → Stamped os k 0 before after → OwnersFilled (take k os) rs ls n x after
owners_filled rs ls n {os} {k} {x} {before} {after} long f s = record { answers = f.answers; owned = λ e ss cs. owned e ss cs }
  where
    owned : x ≡ accepts → (ss cs : List ℕ) → Owned (proof_of rs ls ss cs n) n after
    owned e ss cs = record { room = omega (arith, s.room, (f.taken e ss cs).room); each = λ w h. stamped_is s long w ∙ each w h (member (take k os) w) refl }
      where
        p : Proof
        p = proof_of rs ls ss cs n

        size : length (proof_of rs ls ss cs n) ≡ n
        size = proof_of_length rs ls ss cs n

        T : Trees (take k os) (proof_of rs ls ss cs n)
        T = accepted_trees (take k os) (proof_of rs ls ss cs n) (sym (f.answers ss cs) ∙ ap shown e)

        each : (w : ℕ) → w < length (proof_of rs ls ss cs n) → (b : Bool) → member (take k os) w ≡ b → choose b 0 (get_or before w 0) ≡ owner (proof_of rs ls ss cs n) w n
        each w h true m = sym (rw size at (root_ownerless (take k os) (proof_of rs ls ss cs n) T w h m))
        each w h false m = (f.taken e ss cs).each w h ∙ ap (λ (b : Bool). choose b ROOT (owner (proof_of rs ls ss cs n) w n)) m

pub tree_parented : (p : Proof) → Forest p → (owners : List ℕ) → Owned p (length p) owners → Parented owners (length p)
unfolding parent
tree_parented p T owners O w h = rw (O.each w h) (go (ℕ_discrete (owner p w (length p)) 0))
  where
    go : Dec (owner p w (length p) ≡ 0) → owner p w (length p) ≤ w
    go (yes e) = omega arith
    go (no n) = omega (arith, T.above (parent_child p w h (omega arith)))

pub filled_parented : (roots rs ls owners : List ℕ) (n : ℕ) → OwnersFilled roots rs ls n accepts owners → Parented owners n
filled_parented roots rs ls owners n f =
    let p = proof_of rs ls [] [] n in
    let size : length p ≡ n = proof_of_length rs ls [] [] n in
    rw (← size) (tree_parented p (accepted_trees roots p (sym (f.answers [] []))).forest owners (rw size (f.owned refl [] [])))
