-- one parent's step, case by case, for the proofs of the code
use Rattle.std.specs.Prelude.{◌≡◌, Bool, true, false, ◌&&◌, ◌||◌, List, ℕ, ◌+◌, ◌*◌, ◌<◌, eqb, ltb, length, get_or, set}
use Rattle.std.proofs.Math.Path.{refl}
use Rattle.std.proofs.Common.{sym, ap, ◌∙◌, add-one, arith, length-set, get_or-set_same, get_or-set_other}
use Rattle.std.proofs.Math.Bool.{not, and-true, and-false, or-false}
use Rattle.std.proofs.lemmas.Bool.{false≢true}
use Rattle.std.proofs.Math.Decide.{ℕ_discrete, dec_lt}
use borrow.Author.Tests.{eq-eqb, ne_eqb, lt-ltb, le-ltb}
use Rattle.verdict.specs.Tests.{choose, member}
use Rattle.verdict.specs.Tells.{and_tells, ltb_tells, eqb_tells, tells_self}
use Rattle.formula.specs.Fields.{has_first_lem, has_second_lem}
use Rattle.formula.specs.Nodes.{Proof, node}
use Rattle.formula.specs.PlainNodes.{proof_of, proof_of_length, proof_of_node}
use Rattle.calculus.specs.View.{parents, owner, plain}
use Rattle.calculus.specs.Judge.{fits, children_fit}
use Rattle.tree.specs.Owners.{unowned, ROOT, Taken}

-- node v of p, of n nodes, in plain numbers
pub record Parent (p : Proof) (n v r a b : ℕ) : Type 0 where
  pub size : length p ≡ n
  pub rule_is : (node p v).rule ≡ r
  pub first-is : (node p v).first ≡ a
  pub second_is : (node p v).second ≡ b

pub parent_of : (rs ls ss cs : List ℕ) (n v : ℕ) → v < n → Parent (proof_of rs ls ss cs n) n v (get_or rs v 0) (get_or ls (4 * v + 1) 0) (get_or ls (4 * v + 2) 0)
parent_of rs ls ss cs n v h = record {
  size = proof_of_length rs ls ss cs n;
  rule_is = rw (proof_of_node rs ls ss cs n v h) refl;
  first-is = rw (proof_of_node rs ls ss cs n v h) refl;
  second_is = rw (proof_of_node rs ls ss cs n v h) refl;
}

-- only a rule with a first child has a second one
second_after_first : (r : ℕ) → has_first_lem r ≡ false → has_second_lem r ≡ false
second_after_first r h = go (ℕ_discrete r 3)
  where
    go : Dec (r ≡ 3) → has_second_lem r ≡ false
    go (yes e) = let z : ◌≡◌ {A = Bool} true false = rw e at h in cc
    go (no n) = ne_eqb r 3 n

-- a child that fits is a node
pub unowned_node : (owners : List ℕ) (n v w : ℕ) → unowned owners n v w ≡ true → w < n
unowned_node owners n v w h = ((and_tells (ltb_tells v w) (and_tells (ltb_tells w n) (eqb_tells (get_or owners w 0) 0))).says h).1.0

stored : (l : List ℕ) (i u w : ℕ) → i < length l → get_or (set l i u) w 0 ≡ choose (eqb i w) u (get_or l w 0)
stored l i u w h = go (ℕ_discrete i w)
  where
    go : Dec (i ≡ w) → get_or (set l i u) w 0 ≡ choose (eqb i w) u (get_or l w 0)
    go (yes e) = rw (eq-eqb i w e, ← e) (get_or-set_same l i u 0 h)
    go (no n) = rw (ne_eqb i w n) (get_or-set_other l i w u 0 (λ e. n (sym e)))

-- once the first child is marked, the same node is no second one
marked_first : (owners : List ℕ) (n v a b : ℕ) → a < length owners → unowned (set owners a (v + 1)) n v b ≡ (unowned owners n v b && not (eqb a b))
marked_first owners n v a b h = rw (stored owners a (v + 1) b h) (go (ℕ_discrete a b))
  where
    go : Dec (a ≡ b) → (ltb v b && (ltb b n && eqb (choose (eqb a b) (v + 1) (get_or owners b 0)) 0)) ≡ (unowned owners n v b && not (eqb a b))
    go (yes e) = rw (eq-eqb a b e, ne_eqb (v + 1) 0 (omega arith), and-false (ltb b n), and-false (ltb v b)) (sym (and-false (unowned owners n v b)))
    go (no k) = rw (ne_eqb a b k) (sym (and-true (unowned owners n v b)))

-- a root is marked, so it is no child that fits
root_marked : (m : Bool) (x : ℕ) → eqb (choose m ROOT x) 0 ≡ (eqb x 0 && not m)
root_marked true x = sym (and-false (eqb x 0))
root_marked false x = sym (and-true (eqb x 0))

unmarked : (m : Bool) (x : ℕ) {y : ℕ} → y ≡ choose m ROOT x → eqb y 0 ≡ true → m ≡ false
unmarked false x e h = refl
unmarked true x {y} e h = absurd (false≢true (rw (e, ne_eqb ROOT 0 (omega arith)) at h))

-- what is stored at no root leaves the marks
beside_marks : (roots : List ℕ) (a u w x : ℕ) → member roots a ≡ false → choose (eqb a w) u (choose (member roots w) ROOT x) ≡ choose (member roots w) ROOT (choose (eqb a w) u x)
beside_marks roots a u w x h = go (ℕ_discrete a w)
  where
    go : Dec (a ≡ w) → choose (eqb a w) u (choose (member roots w) ROOT x) ≡ choose (member roots w) ROOT (choose (eqb a w) u x)
    go (yes e) = let k : member roots w ≡ false = rw e at h in rw (eq-eqb a w e, k) refl
    go (no n) = rw (ne_eqb a w n) refl

module _ (roots : List ℕ) (p : Proof) (n v r a b : ℕ) (owners : List ℕ) (P : Parent p n v r a b) (O : Taken roots p v owners) where
  fits-is : (w : ℕ) → fits roots (plain p) v w ≡ unowned owners n v w
  unfolding fits
  fits-is w = rw P.size (go (dec_lt w n))
    where
      go : Dec (w < n) → (ltb v w && (ltb w n && (eqb (owner p w v) 0 && not (member roots w)))) ≡ unowned owners n v w
      go (yes h) = rw (O.each w (omega (arith, P.size)), root_marked (member roots w) (owner p w v)) refl
      go (no k) = rw (le-ltb w n (omega arith)) refl

  fit_is : children_fit roots (plain p) v ≡ ((not (has_first_lem r) || unowned owners n v a) && (not (has_second_lem r) || unowned owners n v b && not (eqb a b)))
  unfolding children_fit
  fit_is = rw (P.rule_is, P.first-is, P.second_is, fits-is a, fits-is b) refl

  owner_is : (w : ℕ) → w < length p → owner p w (v + 1) ≡ choose (has_first_lem r && eqb a w || has_second_lem r && eqb b w) (v + 1) (owner p w v)
  unfolding owner parents
  owner_is w h = rw (add-one v, P.rule_is, P.first-is, P.second_is, lt-ltb w (length p) h) refl

  -- a child that fits is no root
  free : (w : ℕ) → unowned owners n v w ≡ true → member roots w ≡ false
  free w k =
      let z = ((and_tells (ltb_tells v w) (and_tells (ltb_tells w n) (tells_self (eqb (get_or owners w 0) 0)))).says k).1 in
      unmarked (member roots w) (owner p w v) (O.each w (omega (arith, P.size, z.0))) z.1

  module _ (none : has_first_lem r ≡ false) where
    pub none_fit : children_fit roots (plain p) v ≡ true
    none_fit = fit_is ∙ rw (none, second_after_first r none) refl

    pub none_owned : Taken roots p (v + 1) owners
    none_owned = record { room = O.room; each = λ w h. O.each w h ∙ ap (choose (member roots w) ROOT) (sym (owner_is w h ∙ rw (none, second_after_first r none) refl)) }

  module _ (one : has_first_lem r ≡ true) where
    pub first_unfit : unowned owners n v a ≡ false → children_fit roots (plain p) v ≡ false
    first_unfit k = fit_is ∙ rw (one, k) refl

    module _ (k : unowned owners n v a ≡ true) where
      first_room : a < length owners
      first_room = omega (arith, unowned_node owners n v a k, O.room, P.size)

      module _ (single : has_second_lem r ≡ false) where
        pub one_fit : children_fit roots (plain p) v ≡ true
        one_fit = fit_is ∙ rw (one, k, single) refl

        pub one_owned : Taken roots p (v + 1) (set owners a (v + 1))
        one_owned = record {
          room = simp length-set O.room;
          each = λ w h.
              stored owners a (v + 1) w first_room ∙ ap (choose (eqb a w) (v + 1)) (O.each w h) ∙ beside_marks roots a (v + 1) w (owner p w v) (free a k)
              ∙ ap (choose (member roots w) ROOT) (sym (owner_is w h ∙ rw (one, single, or-false (eqb a w)) refl));
        }

      module _ (double : has_second_lem r ≡ true) where
        pub two_fit : children_fit roots (plain p) v ≡ unowned (set owners a (v + 1)) n v b
        two_fit = fit_is ∙ rw (one, k, double) (sym (marked_first owners n v a b first_room))

        pub two_owned : unowned (set owners a (v + 1)) n v b ≡ true → Taken roots p (v + 1) (set (set owners a (v + 1)) b (v + 1))
        two_owned j = record { room = simp length-set O.room; each = each }
          where
            twice : (x y : Bool) (z : ℕ) → choose (x || y) (v + 1) z ≡ choose y (v + 1) (choose x (v + 1) z)
            twice true true z = refl
            twice true false z = refl
            twice false y z = refl

            second_room : b < length (set owners a (v + 1))
            second_room = omega (arith, unowned_node (set owners a (v + 1)) n v b j, length-set owners a (v + 1), O.room, P.size)

            second_free : member roots b ≡ false
            second_free = free b ((and_tells (tells_self (unowned owners n v b)) (tells_self (not (eqb a b)))).says (sym (marked_first owners n v a b first_room) ∙ j)).0

            each : (w : ℕ) → w < length p → get_or (set (set owners a (v + 1)) b (v + 1)) w 0 ≡ choose (member roots w) ROOT (owner p w (v + 1))
            each w h =
                stored (set owners a (v + 1)) b (v + 1) w second_room
                ∙ ap (choose (eqb b w) (v + 1)) (stored owners a (v + 1) w first_room ∙ ap (choose (eqb a w) (v + 1)) (O.each w h) ∙ beside_marks roots a (v + 1) w (owner p w v) (free a k))
                ∙ beside_marks roots b (v + 1) w (choose (eqb a w) (v + 1) (owner p w v)) second_free
                ∙ ap (choose (member roots w) ROOT) (sym (owner_is w h ∙ rw (one, double) (twice (eqb a w) (eqb b w) (owner p w v))))
