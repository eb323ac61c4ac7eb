-- 36 goal by goal, as the code compares them: the roots rise, so this is by rising node too
use Rattle.std.specs.Prelude.{◌≡◌, false, not, ◌&&◌, ◌||◌, eqb, length, get_or, take}
use Rattle.std.proofs.Math.Path.{refl}
use Rattle.std.proofs.Common.{sym, ap, ◌∙◌, arith, length-take, get_or-take, below_more, eq-eqb, ne_eqb}
use Rattle.std.proofs.Math.Bool.{true, and-false}
use mathlib.Core.List.{List, [], ◌∷◌}
use Prim.Native.Nat.{ℕ, zero, suc, ◌+◌, ◌-◌, ◌<◌, ◌≤◌}
use Rattle.std.proofs.Math.Decide.{ℕ_discrete, dec_lt}
use Rattle.verdict.specs.Lists.{Rising}
use Rattle.verdict.specs.Verdict.{accepted, refused}
use Rattle.verdict.specs.ScanLaws.{Passed, scan_passes}
use Rattle.verdict.proofs.ScanLaws.{scan_fails}
use Rattle.formula.specs.Table.{Table}
use Rattle.formula.specs.Claim.{Form, Claim}
use Rattle.formula.specs.Nodes.{Proof}
use Rattle.formula.specs.Held.{goals_of, goals_of_length, goals_of_at}
use Rattle.formula.specs.PlainNodes.{codes_at_lem, proof_of, proof_of_length}
use Rattle.calculus.specs.View.{View, plain}
use Rattle.calculus.specs.Judge.{states, claimed}
use Rattle.goals.specs.Goals.{goals_judged, RootsRising}

module _ (t : Table) (q : View) (v : ℕ) where
  -- a node passes when it states each goal whose root it is
  claimed_holds : (goals : List (List ℕ)) (roots : List ℕ) → length roots ≡ length goals
      → ((i : ℕ) → i < length goals → get_or roots i 0 ≡ v → states t q v (get_or goals i []) ≡ true) → claimed t q goals roots v ≡ true
  unfolding claimed
  claimed_holds [] roots e f = refl
  claimed_holds (ms ∷ goals) [] e f = refl
  claimed_holds (ms ∷ goals) (r ∷ roots) e f = rw (claimed_holds goals roots (omega arith) (λ i h. f (suc i) (omega arith))) (go (ℕ_discrete r v))
    where
      go : Dec (r ≡ v) → ((not (eqb r v) || states t q v ms) && true) ≡ true
      go (yes k) = rw (eq-eqb r v k, f 0 (omega arith) k) refl
      go (no n) = rw (ne_eqb r v n) refl

  -- and fails when it does not
  claimed_fails : (goals : List (List ℕ)) (roots : List ℕ) → length roots ≡ length goals
      → (i : ℕ) → i < length goals → get_or roots i 0 ≡ v → states t q v (get_or goals i []) ≡ false → claimed t q goals roots v ≡ false
  unfolding claimed
  claimed_fails [] roots e i h k f = absurd (omega arith)
  claimed_fails (ms ∷ goals) [] e i h k f = absurd (omega arith)
  claimed_fails (ms ∷ goals) (r ∷ roots) e zero h k f = rw (eq-eqb r v k, f) refl
  claimed_fails (ms ∷ goals) (r ∷ roots) e (suc i) h k f = rw (claimed_fails goals roots (omega arith) i (omega arith) k f) (and-false (not (eqb r v) || states t q v ms))

-- of two roots that rise the later is larger
rises : (l : List ℕ) → Rising l → (i d : ℕ) → i + suc d < length l → get_or l i 0 < get_or l (i + suc d) 0
rises l r i zero h = let e : i + 1 ≡ suc i = omega arith in rw e (r i (omega arith))
rises l r i (suc d) h =
    let e : i + suc (suc d) ≡ suc (i + suc d) = omega arith in
    rw e (omega (arith, rises l r i d (omega arith), r (i + suc d) (omega arith)))

-- so a root that is smaller comes earlier
earlier : (l : List ℕ) → Rising l → (i j : ℕ) → i < length l → j < length l → get_or l j 0 < get_or l i 0 → j < i
earlier l r i j h k s = go (dec_lt j i) (ℕ_discrete j i)
  where
    go : Dec (j < i) → Dec (j ≡ i) → j < i
    go (yes e) _ = e
    go (no n) (yes e) = absurd (omega (arith, ap (λ (x : ℕ). get_or l x 0) e))
    go (no n) (no m) =
        let d : ℕ = j - suc i in
        let e : i + suc d ≡ j = omega arith in
        absurd (omega (arith, rises l r i d (omega arith), ap (λ (x : ℕ). get_or l x 0) e))

-- goals and roots beside a table and nodes of any rules and links
module _ (t : Table) (gs ms os ss cs : List ℕ) (m : ℕ) where
  -- the first i goals are stated at their roots
  abbrev pub Stated : ℕ → Type 0
  Stated i = (rs ls : List ℕ) (j : ℕ) → j < i → states t (plain (proof_of rs ls ss cs m)) (get_or os j 0) (codes_at_lem gs ms j) ≡ true

  pub one_stated : {i : ℕ} → Stated i → ((rs ls : List ℕ) → states t (plain (proof_of rs ls ss cs m)) (get_or os i 0) (codes_at_lem gs ms i) ≡ true) → Stated (i + 1)
  one_stated {i} f g rs ls = below_more (λ j. states t (plain (proof_of rs ls ss cs m)) (get_or os j 0) (codes_at_lem gs ms j) ≡ true) i (f rs ls) (g rs ls)

  module _ {k : ℕ} (R : RootsRising os k m) (f : Form) (rs ls : List ℕ) where
    abbrev c : Claim
    c = record { form = f; entries = t; goals = goals_of gs ms k }

    abbrev p : Proof
    p = proof_of rs ls ss cs m

    as_many : length (take k os) ≡ length (goals_of gs ms k)
    as_many = omega (arith, length-take k os, goals_of_length gs ms k, R.long)

    root_is : (i : ℕ) → i < k → get_or (take k os) i 0 ≡ get_or os i 0
    root_is i h = get_or-take k os i 0 h

    -- what is stated below i passes below its root
    pass : (i v : ℕ) → Stated i → ((j : ℕ) → j < k → get_or os j 0 ≡ v → j < i) → claimed t (plain p) (goals_of gs ms k) (take k os) v ≡ true
    pass i v s less = claimed_holds t (plain p) v (goals_of gs ms k) (take k os) as_many here
      where
        here : (j : ℕ) → j < length (goals_of gs ms k) → get_or (take k os) j 0 ≡ v → states t (plain p) v (get_or (goals_of gs ms k) j []) ≡ true
        here j h e =
            let l : j < k = omega (arith, goals_of_length gs ms k) in
            let z : get_or os j 0 ≡ v = sym (root_is j l) ∙ e in
            rw (goals_of_at gs ms k j l, ← z) (s rs ls j (less j l z))

    pub goals_pass : {i : ℕ} → k ≤ i → Stated i → accepted ≡ goals_judged c (take k os) p
    goals_pass {i} h s = sym (scan_passes _ (λ _. 36) _ accepted (λ v l. pass i v s (λ j z e. omega arith)))

    pub goals_fail : {i : ℕ} → i < k → Stated i → states t (plain p) (get_or os i 0) (codes_at_lem gs ms i) ≡ false
        → refused 36 (get_or os i 0) ≡ goals_judged c (take k os) p
    goals_fail {i} h s bad =
        sym (scan_fails _ (λ _. 36) _ accepted (get_or os i 0) (omega (arith, R.inside i h, proof_of_length rs ls ss cs m)) before
        (claimed_fails t (plain p) (get_or os i 0) (goals_of gs ms k) (take k os) as_many i (omega (arith, goals_of_length gs ms k)) (root_is i h)
        (rw (goals_of_at gs ms k i h) bad)))
      where
        before : Passed (claimed t (plain p) (goals_of gs ms k) (take k os)) (get_or os i 0)
        before v l = pass i v s (λ j z e. earlier (take k os) R.rising i j (omega (arith, length-take k os, R.long)) (omega (arith, length-take k os, R.long)) (omega (arith, root_is i h, root_is j z)))
