-- entries and exits, node by node, for the proofs of the code
use Rattle.std.specs.Prelude.{◌≡◌, refl, List, ◌∷◌, ℕ, zero, suc, ◌+◌, ◌-◌, ◌<◌, ◌≤◌, get_or, set}
use Rattle.std.proofs.Common.{ap, ◌∙◌, arith, length-set, get_or-set_same, get_or-set_other, below_more}
use Rattle.tree.specs.Owners.{Parented}
use Rattle.spans.specs.Spans.{up, at_parent_lem, Upward, Spans, Counted, Numbered}

-- an owner's number is one more than its node's: there stands what the table has at that node
pub at_up : (x : ℕ) (l : List ℕ) (i : ℕ) → 0 < i → get_or (x ∷ l) i 0 ≡ get_or l (i - 1) 0
at_up x l zero h = absurd (omega arith)
at_up x l (suc i) h = let e : suc i - 1 ≡ i = omega arith in rw e refl

-- every table of the nodes has a place for a node's parent
pub parent_room : {owners : List ℕ} {n : ℕ} → Upward owners n → (w k : ℕ) → w < n → n ≤ k → get_or owners w 0 ≤ k
parent_room U w k h i = omega (arith, U.parented w h)

module _ (owners : List ℕ) (n : ℕ) (P : Parented owners n) (offsets sizes : List ℕ) (C : Counted owners n 0 offsets (n ∷ sizes)) where
  pub none_numbered : Numbered owners n 0 offsets sizes offsets sizes
  none_numbered = record {
    room = (C.room.0, omega (arith, C.room.1));
    entered = λ w h. absurd (omega arith);
    left = λ w h. absurd (omega arith);
    inside = λ w h. absurd (omega arith);
    rest = λ w h. (refl, refl);
  }

  -- node v is entered after its parent's entry, as far as was counted
  module _ (v : ℕ) (real : v < n) (entries exits : List ℕ) (N : Numbered owners n v offsets sizes entries exits) where
    abbrev entry : ℕ
    entry = at_parent_lem owners entries v + get_or entries v 0

    pub exit_fits : entry + get_or exits v 0 ≤ n
    exit_fits = omega (arith, N.rest v (omega arith), C.within v (omega arith) real, owner_inside (get_or owners v 0) (P v real))
      where
        owner_inside : (i : ℕ) → i ≤ v → get_or (0 ∷ entries) i 0 + get_or (n ∷ sizes) i 0 ≤ n
        owner_inside zero h = omega arith
        owner_inside (suc w) h = omega (arith, N.left w (omega arith), N.inside w (omega arith))

    abbrev entered : List ℕ
    entered = set entries v entry

    entered_here : get_or entered v 0 ≡ entry
    entered_here = get_or-set_same entries v entry 0 (omega (arith, N.room))

    entered_else : (w : ℕ) → (w ≡ v → ⊥) → get_or entered w 0 ≡ get_or entries w 0
    entered_else w h = get_or-set_other entries v w entry 0 h

    parent_else : (w : ℕ) → w ≤ v → at_parent_lem owners entered w ≡ at_parent_lem owners entries w
    parent_else w h = go (get_or owners w 0) (P w (omega arith))
      where
        go : (i : ℕ) → i ≤ w → get_or (0 ∷ entered) i 0 ≡ get_or (0 ∷ entries) i 0
        go zero k = refl
        go (suc u) k = entered_else u (λ e. omega arith)

    abbrev left : List ℕ
    left = set exits v (entry + get_or exits v 0)

    left_here : get_or left v 0 ≡ entry + get_or exits v 0
    left_here = get_or-set_same exits v (entry + get_or exits v 0) 0 (omega (arith, N.room))

    left_else : (w : ℕ) → (w ≡ v → ⊥) → get_or left w 0 ≡ get_or exits w 0
    left_else w h = get_or-set_other exits v w (entry + get_or exits v 0) 0 h

    pub number_more : Numbered owners n (v + 1) offsets sizes entered left
    number_more = record {
      room = simp length-set N.room;
      entered = below_more (λ w. get_or entered w 0 ≡ at_parent_lem owners entered w + get_or offsets w 0) v
          (λ w h. omega (arith, entered_else w (λ e. omega arith), parent_else w (omega arith), N.entered w h))
          (omega (arith, entered_here, parent_else v (omega arith), N.rest v (omega arith)));
      left = below_more (λ w. get_or left w 0 ≡ get_or entered w 0 + get_or sizes w 0) v
          (λ w h. omega (arith, left_else w (λ e. omega arith), entered_else w (λ e. omega arith), N.left w h))
          (omega (arith, left_here, entered_here, N.rest v (omega arith)));
      inside = below_more (λ w. get_or left w 0 ≤ n) v (λ w h. omega (arith, left_else w (λ e. omega arith), N.inside w h)) (omega (arith, left_here, exit_fits));
      rest = λ w h. (entered_else w (λ e. omega arith) ∙ (N.rest w (omega arith)).0, left_else w (λ e. omega arith) ∙ (N.rest w (omega arith)).1);
    }

  pub spans_done : (entries exits : List ℕ) → Numbered owners n n offsets sizes entries exits → Spans owners n entries exits
  spans_done entries exits N = record {
    some = λ w h. omega (arith, N.left w h, C.some w h);
    after = λ w h k. omega (arith, N.entered w h, at_up 0 entries (get_or owners w 0) k, C.after w (omega arith) h k);
    within = λ w h k.
        let r = P w h in
        let i = at_up 0 entries (get_or owners w 0) k in
        let j = at_up n sizes (get_or owners w 0) k in
        omega (arith, N.left w h, N.entered w h, i, j, C.within w (omega arith) h, N.left (up owners w) (omega arith));
    apart = λ x y k l e.
        let m = ap (λ (i : ℕ). get_or (0 ∷ entries) i 0) e in
        omega (arith, N.left y l, N.entered x (omega arith), N.entered y l, m, C.apart x y (omega arith) k l e);
  }
