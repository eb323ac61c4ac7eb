-- the joined nodes are a tree: each half sits in them, and each node but the root is a child once
use Rattle.std.specs.Prelude.{◌≡◌, Bool, List, [], ◌∷◌, ℕ, suc, ◌+◌, ◌<◌, length}
use Rattle.std.proofs.Math.Path.{refl, ap}
use Rattle.std.proofs.Common.{sym, subst, ◌∙◌, arith, get_or-append-add}
use mathlib.Core.List.Memᴰ
use Rattle.std.proofs.Math.Decide.{ℕ_discrete}
use Rattle.std.proofs.lemmas.List.{length-map}
use Rattle.std.proofs.Math.ListN.{get_or-append, get_or-map}
use Rattle.verdict.specs.Sets.{elements}
use Rattle.formula.specs.Nodes.{Proof, node}
use Rattle.calculus.specs.Tree.{Child, first, second, Forest, Trees, is_second}
use Rattle.calculus.specs.TreeLaws.{child_real}
use Rattle.joining.specs.Shift.{shift, shifted}
use Rattle.joining.specs.Sits.{Sits}
use Rattle.joining.proofs.Sits.{child_down, child_up}
use Rattle.joining.specs.JoinedTree.{Edge, Part, both, both-length, in_first, in_second, new, of_first, of_second, part, to_first, to_second}

shifted_at : (d : ℕ) (p : Proof) (v : ℕ) → node (shifted d p) v ≡ shift d (node p v)
shifted_at d p v = get_or-map (shift d) p v (node [] 0)

one_parent_like : {p : Proof} → Forest p → {u v w x : ℕ} → w ≡ x → (c : Child p u w) (d : Child p v x) → (u ≡ v) × (is_second p c ≡ is_second p d)
one_parent_like {p} T {u} {v} i c = subst (λ (x : ℕ). (d : Child p v x) → (u ≡ v) × (is_second p c ≡ is_second p d)) i (λ d. T.one_parent c d)

-- the only root
at_root : {w : ℕ} → w ≡ 0 → elements (0 ∷ []) w
at_root i = Memᴰ.head i

root_is : {w : ℕ} → elements (0 ∷ []) w → w ≡ 0
root_is (Memᴰ.head i) = i
root_is (Memᴰ.tail m) = absurd (Memᴰ.not-nil m)

module _ (e : ℕ) (ms : List ℕ) (p r : Proof) where
  pub left : Sits 1 p (both e ms p r)
  left = record {
    room = omega (arith, both-length e ms p r);
    at = λ v h.
        let i : v + 1 ≡ suc v = omega arith in
        ap (node (both e ms p r)) i
        ∙ get_or-append (shifted 1 p) (shifted (length p + 1) r) (node [] 0) v (omega (arith, length-map p (shift 1)))
        ∙ shifted_at 1 p v;
  }

  pub right : Sits (length p + 1) r (both e ms p r)
  right = record {
    room = omega (arith, both-length e ms p r);
    at = λ v h.
        let i : v + (length p + 1) ≡ suc (length (shifted 1 p) + v) = omega (arith, length-map p (shift 1)) in
        ap (node (both e ms p r)) i
        ∙ get_or-append-add (shifted 1 p) (shifted (length p + 1) r) v (node [] 0)
        ∙ shifted_at (length p + 1) r v;
  }

  root_edge : {u w : ℕ} → u ≡ 0 → (c : Child (both e ms p r) u w) → Edge e ms p r u w (is_second (both e ms p r) c)
  unfolding is_second
  root_edge i (first _ _ _ f) = to_first i (sym f ∙ ap (λ (n : ℕ). (node (both e ms p r) n).first) i) refl
  root_edge i (second _ _ f) = to_second i (sym f ∙ ap (λ (n : ℕ). (node (both e ms p r) n).second) i) refl

  pub edge : {u w : ℕ} (c : Child (both e ms p r) u w) → Edge e ms p r u w (is_second (both e ms p r) c)
  edge {u} {w} c = go (part e ms p r u (child_real (both e ms p r) c))
    where
      go : Part e ms p r u → Edge e ms p r u w (is_second (both e ms p r) c)
      go (new i) = root_edge i c
      go (of_first v h i) = let z = child_up left v i h c in in_first z.edge i z.number z.field
      go (of_second v h i) = let z = child_up right v i h c in in_second z.edge i z.number z.field

  module _ (P : Trees (0 ∷ []) p) (R : Trees (0 ∷ []) r) (n : 0 < length p) (m : 0 < length r) where
    edge_above : {u w : ℕ} {s : Bool} → Edge e ms p r u w s → u < w
    edge_above (to_first i j _) = omega arith
    edge_above (to_second i j _) = omega arith
    edge_above (in_first c i j _) = omega (arith, P.forest.above c)
    edge_above (in_second c i j _) = omega (arith, R.forest.above c)

    edge_inside : {u w : ℕ} {s : Bool} → Edge e ms p r u w s → w < length (both e ms p r)
    edge_inside (to_first i j _) = omega (arith, both-length e ms p r)
    edge_inside (to_second i j _) = omega (arith, both-length e ms p r)
    edge_inside (in_first c i j _) = omega (arith, both-length e ms p r, P.forest.inside c)
    edge_inside (in_second c i j _) = omega (arith, both-length e ms p r, R.forest.inside c)

    one_edge : {u v w : ℕ} {s z : Bool} → Edge e ms p r u w s → Edge e ms p r v w z → (u ≡ v) × (s ≡ z)
    one_edge (to_first i j f) (to_first k l g) = (omega arith, f ∙ sym g)
    one_edge (to_first i j f) (to_second k l g) = absurd (omega arith)
    one_edge (to_first i j f) (in_first c k l g) = absurd (omega (arith, P.forest.above c))
    one_edge (to_first i j f) (in_second c k l g) = absurd (omega arith)
    one_edge (to_second i j f) (to_first k l g) = absurd (omega arith)
    one_edge (to_second i j f) (to_second k l g) = (omega arith, f ∙ sym g)
    one_edge (to_second i j f) (in_first c k l g) = absurd (omega (arith, P.forest.inside c))
    one_edge (to_second i j f) (in_second c k l g) = absurd (omega (arith, R.forest.above c))
    one_edge (in_first b i j f) (to_first k l g) = absurd (omega (arith, P.forest.above b))
    one_edge (in_first b i j f) (to_second k l g) = absurd (omega (arith, P.forest.inside b))
    one_edge (in_first b i j f) (in_first c k l g) = let (x, y) = one_parent_like P.forest (omega arith) b c in (omega arith, f ∙ y ∙ sym g)
    one_edge (in_first b i j f) (in_second c k l g) = absurd (omega (arith, P.forest.inside b))
    one_edge (in_second b i j f) (to_first k l g) = absurd (omega arith)
    one_edge (in_second b i j f) (to_second k l g) = absurd (omega (arith, R.forest.above b))
    one_edge (in_second b i j f) (in_first c k l g) = absurd (omega (arith, P.forest.inside c))
    one_edge (in_second b i j f) (in_second c k l g) = let (x, y) = one_parent_like R.forest (omega arith) b c in (omega arith, f ∙ y ∙ sym g)

    -- the root has the two trees' roots as children
    first_edge : Child (both e ms p r) 0 1
    first_edge = first (omega (arith, both-length e ms p r)) (omega arith) (omega arith) refl

    second_edge : Child (both e ms p r) 0 (length p + 1)
    second_edge = second (omega (arith, both-length e ms p r)) refl refl

    found : {w : ℕ} → Part e ms p r w → (elements (0 ∷ []) w → ⊥) → (v : ℕ) × Child (both e ms p r) v w
    found (new i) k = absurd (k (at_root i))
    found {w} (of_first v h i) k = go (ℕ_discrete v 0)
      where
        go : Dec (v ≡ 0) → (u : ℕ) × Child (both e ms p r) u w
        go (yes z) = let j : w ≡ 1 = omega arith in (0, rw j first_edge)
        go (no z) = let (u, c) = P.some_parent v h (λ m. z (root_is m)) in (u + 1, rw i (child_down left c))
    found {w} (of_second v h i) k = go (ℕ_discrete v 0)
      where
        go : Dec (v ≡ 0) → (u : ℕ) × Child (both e ms p r) u w
        go (yes z) = let j : w ≡ length p + 1 = omega arith in (0, rw j second_edge)
        go (no z) = let (u, c) = R.some_parent v h (λ m. z (root_is m)) in (u + (length p + 1), rw i (child_down right c))

    pub both_tree : Trees (0 ∷ []) (both e ms p r)
    both_tree = record {
      forest = record {
        above = λ c. edge_above (edge c);
        inside = λ c. edge_inside (edge c);
        one_parent = λ c d. one_edge (edge c) (edge d);
      };
      some_parent = λ w h k. found (part e ms p r w h) k;
      no_root = λ c m. omega (arith, edge_above (edge c), root_is m);
    }
