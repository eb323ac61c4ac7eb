-- the tables of loop paths, node by node
use Rattle.std.specs.Prelude.{◌≡◌, Bool, not, ◌&&◌, ◌||◌, List, [], ◌∷◌, ℕ, zero, suc, ◌+◌, ◌<◌, ◌≤◌, eqb, leb, length, set}
use Rattle.std.proofs.Math.Path.{refl, sym}
use Rattle.std.proofs.Common.{ap, ◌∙◌, arith, get_or-set_same, get_or-set_other, below_more, ne_eqb, lt-ltb, le-ltb, le-leb}
use Rattle.std.proofs.Math.Bool.{true, false}
use Rattle.std.proofs.lemmas.Bool.{false≢true, lt-leb}
use Rattle.std.proofs.Math.Decide.{ℕ_discrete, dec_lt}
use Rattle.std.proofs.Math.Dec.{ltb}
use Rattle.std.proofs.Math.ListN.{get_or}
use Rattle.verdict.specs.Tests.{all, any, member}
use Rattle.formula.specs.Rule
use Rattle.formula.specs.Nodes.{Proof, Node}
use Rattle.formula.specs.PlainNodes.{codes_at_lem, proof_of, proof_of_length, proof_of_node, proof_of_rule}
use Rattle.calculus.specs.Judge.{ancestor, on_loop, good_path}
use Rattle.tree.specs.Owners.{Owned, Parented}
use Rattle.spans.specs.Spans.{up}
use Rattle.spans.specs.Climbs.{path, Parents, path_step, path_end, path_root}
use Rattle.spans.specs.SpanLaws.{at_up}
use Rattle.loops.specs.Paths.{box, passable, barred, Nearest, nearest_at, PathsTold, PathsFilled}

module _ (p : Proof) (owners : List ℕ) (R : Parents p owners) (marked : ℕ → Bool) (table : List ℕ) (v : ℕ) (real : v < length p) (N : Nearest p marked v table) where
  -- without a mark of its own a node's nearest one lies above it
  near_above : nearest_at owners table v false ≤ v
  near_above = go (get_or owners v 0) (R.parented v real)
    where
      go : (i : ℕ) → i ≤ v → get_or (0 ∷ table) i 0 ≤ v
      go zero h = omega arith
      go (suc w) h = omega (arith, N.most w (omega arith))

  near_most : (b : Bool) → nearest_at owners table v b ≤ v + 1
  near_most true = omega arith
  near_most false = omega (arith, near_above)

  near_tells : (c : ℕ) → member (path p c v) c ≡ true → any marked (path p c v) ≡ ltb c (nearest_at owners table v (marked v))
  unfolding member any
  near_tells c m = go (ℕ_discrete c v) (dec_lt c v) (ℕ_discrete (get_or owners v 0) 0)
    where
      further : c < v → 0 < get_or owners v 0 → member (path p c (up owners v)) c ≡ true → (b : Bool) → (b || any marked (path p c (up owners v))) ≡ ltb c (nearest_at owners table v b)
      further h o n true = sym (lt-ltb c (v + 1) (omega arith))
      further h o n false = let r = R.parented v real in N.tells c (up owners v) (omega arith) n ∙ rw (at_up 0 table (get_or owners v 0) o) refl

      alone : c ≡ v → (b : Bool) → (b || false) ≡ ltb c (nearest_at owners table v b)
      alone e true = sym (lt-ltb c (v + 1) (omega arith))
      alone e false = sym (le-ltb c (nearest_at owners table v false) (omega (arith, near_above)))

      -- the walk ends at v only if it comes from there
      ended : path p c v ≡ v ∷ [] → (c ≡ v → ⊥) → ⊥
      ended e k = false≢true (rw (e, ne_eqb c v k) at m)

      go : Dec (c ≡ v) → Dec (c < v) → Dec (get_or owners v 0 ≡ 0) → any marked (path p c v) ≡ ltb c (nearest_at owners table v (marked v))
      go (yes e) _ _ = rw (path_end p owners R c v (omega arith)) (alone e (marked v))
      go (no k) (no h) _ = absurd (ended (path_end p owners R c v (omega arith)) k)
      go (no k) (yes h) (yes r) = absurd (ended (path_root p owners R c v real r) k)
      go (no k) (yes h) (no r) =
          let o : 0 < get_or owners v 0 = omega arith in
          let up_one = path_step p owners R c v h real o in
          rw up_one (further h o (rw (up_one, ne_eqb c v k) at m) (marked v))

  pub near_more : v < length table → Nearest p marked (v + 1) (set table v (nearest_at owners table v (marked v)))
  near_more room = record {
    most = below_more (λ w. get_or next w 0 ≤ w + 1) v (λ w h. omega (arith, else w h, N.most w h)) (omega (arith, here, near_most (marked v)));
    tells = λ c w h m. below_more (λ w. member (path p c w) c ≡ true → any marked (path p c w) ≡ ltb c (get_or next w 0)) v (λ w h m. rw (else w h) (N.tells c w h m)) (λ m. rw here (near_tells c m)) w h m;
  }
    where
      next : List ℕ
      next = set table v (nearest_at owners table v (marked v))

      here : get_or next v 0 ≡ nearest_at owners table v (marked v)
      here = get_or-set_same table v (nearest_at owners table v (marked v)) 0 room

      else : (w : ℕ) → w < v → get_or next w 0 ≡ get_or table w 0
      else w h = get_or-set_other table v w (nearest_at owners table v (marked v)) 0 (λ e. omega arith)

-- all nodes of a list may lie on a loop path when none is barred
all_or_any : (f : ℕ → Bool) (l : List ℕ) → all f l ≡ not (any (λ w. not (f w)) l)
unfolding all any
all_or_any f [] = refl
all_or_any f (w ∷ l) = go (f w) (all_or_any f l)
  where
    go : (b : Bool) → all f l ≡ not (any (λ w. not (f w)) l) → (b && all f l) ≡ not (not b || any (λ w. not (f w)) l)
    go true e = e
    go false e = refl

not_ltb : (a b : ℕ) → not (ltb a b) ≡ leb b a
not_ltb a b = go (dec_lt a b)
  where
    go : Dec (a < b) → not (ltb a b) ≡ leb b a
    go (yes h) = rw (lt-ltb a b h, lt-leb b a h) refl
    go (no h) = rw (le-ltb a b (omega arith), le-leb b a (omega arith)) refl

pub paths_told : (p : Proof) (bars boxes : List ℕ) → Nearest p (barred p) (length p) bars → Nearest p (box p) (length p) boxes → PathsTold p bars boxes
unfolding good_path ancestor
paths_told p bars boxes B X = record {
  path_is = λ c v real h.
      let m = latter (ltb c v) (member (path p c v) c) h in
      sym (rw (all_or_any (passable p) (path p c v), B.tells c v real m, X.tells c v real m, not_ltb c (get_or bars v 0)) refl);
}
  where
    latter : (a b : Bool) → (a && b) ≡ true → b ≡ true
    latter true b e = e
    latter false b e = absurd (false≢true e)

-- both tables while the nodes below v have been looked at, whatever the links are that give these parents
module _ (rs ss cs : List ℕ) (n : ℕ) (owners : List ℕ) where
  abbrev pub PathsBelow : ℕ → List ℕ → List ℕ → Type 0
  PathsBelow v bars boxes =
      (ls : List ℕ) → Owned (proof_of rs ls ss cs n) n owners
      → Nearest (proof_of rs ls ss cs n) (barred (proof_of rs ls ss cs n)) v bars × Nearest (proof_of rs ls ss cs n) (box (proof_of rs ls ss cs n)) v boxes

  pub none_below : (bars boxes : List ℕ) → PathsBelow 0 bars boxes
  none_below bars boxes ls O = (
    record { most = λ w h. absurd (omega arith); tells = λ c w h. absurd (omega arith) },
    record { most = λ w h. absurd (omega arith); tells = λ c w h. absurd (omega arith) },
  )

  module _ (P : Parented owners n) {v : ℕ} (real : v < n) (bars boxes : List ℕ) (room : v < length bars) (room₂ : v < length boxes) (N : PathsBelow v bars boxes) where
    pub paths_more : (good : Bool) → good ≡ on_loop (get_or rs v 0) (codes_at_lem ss cs v)
        → PathsBelow (v + 1) (set bars v (nearest_at owners bars v (not good))) (set boxes v (nearest_at owners boxes v (eqb (get_or rs v 0) Rule.BOX)))
    paths_more good e ls O =
        let p = proof_of rs ls ss cs n in
        let size : length p ≡ n = proof_of_length rs ls ss cs n in
        let R : Parents p owners = record { owned = rw size O; parented = rw size P } in (
          rw (e ∙ sym (ap (λ (x : Node). on_loop x.rule x.codes) (proof_of_node rs ls ss cs n v real))) (near_more p owners R (barred p) bars v (omega arith) (N ls O).0 room),
          rw (← proof_of_rule rs ls ss cs n v real) (near_more p owners R (box p) boxes v (omega arith) (N ls O).1 room₂),
        )

  pub paths_done : {v : ℕ} (bars boxes : List ℕ) → v ≤ n → n ≤ v → PathsBelow v bars boxes → PathsFilled rs ss cs n owners bars boxes
  paths_done {v} bars boxes h k N ls O =
      let size : v ≡ length (proof_of rs ls ss cs n) = omega (arith, proof_of_length rs ls ss cs n) in
      paths_told (proof_of rs ls ss cs n) bars boxes (rw size at (N ls O).0) (rw size at (N ls O).1)
