-- the spans tell the proper ancestors: a node's span lies in that of each ancestor, and apart from that of any other smaller number
use Rattle.std.specs.Prelude.{◌≡◌, Bool, List, get_or}
use Rattle.std.proofs.Math.Path.{refl}
use Rattle.std.proofs.Math.Bool.{true, false}
use Rattle.std.proofs.lemmas.Bool.{false≢true}
use Rattle.std.proofs.Common.{true≢false, arith}
use Prim.Native.Nat.{ℕ, zero, suc, ◌+◌, ◌<◌, ◌≤◌}
use Rattle.std.proofs.Math.Decide.{ℕ_discrete, dec_lt}
use Rattle.std.proofs.Math.ListN.{length}
use borrow.Author.Tests.{lt-ltb, le-ltb, eq-eqb, ne_eqb}
use Rattle.verdict.specs.Tests.{any, member}
use Rattle.verdict.specs.Tells.{fails_holds, and_tells, ltb_tells}
use Rattle.formula.specs.Nodes.{Proof}
use Rattle.calculus.specs.View.{plain}
use Rattle.calculus.specs.Judge.{ancestor}
use Rattle.tree.specs.Owners.{Owned, Parented}
use Rattle.spans.specs.Spans.{up, Spans, spanned}
use Rattle.spans.specs.Climbs.{path, Parents, path_step, path_end, path_root}

module _ (p : Proof) (owners : List ℕ) (R : Parents p owners) (entries exits : List ℕ) (S : Spans owners (length p) entries exits) where
  -- no number is in both spans
  abbrev Apart : ℕ → ℕ → Type 0
  Apart c w = (k : ℕ) → get_or entries c 0 ≤ k → k < get_or exits c 0 → get_or entries w 0 ≤ k → k < get_or exits w 0 → ⊥

  -- a node between w and its parent, or below a root w in number, is not above w: if the two have not one parent, the larger parent lies so
  -- with the other node
  beside : (f c w : ℕ) → c + w < f → w < length p → c < w → get_or owners w 0 ≤ c → Apart c w
  beside zero c w h real l m k a b d e = absurd (omega arith)
  beside (suc f) c w h real l m k a b d e = go (dec_lt (get_or owners c 0) (get_or owners w 0)) (dec_lt (get_or owners w 0) (get_or owners c 0)) (beside f)
    where
      go : Dec (get_or owners c 0 < get_or owners w 0) → Dec (get_or owners w 0 < get_or owners c 0) → ((c w : ℕ) → c + w < f → w < length p → c < w → get_or owners w 0 ≤ c → Apart c w) → ⊥
      go (yes i) _ ih = ih (up owners w) c (omega arith) (omega arith) (omega arith) (omega arith) k (omega (arith, S.after w real (omega arith))) (omega (arith, S.within w real (omega arith))) a b
      go (no i) (yes j) ih =
          let r = R.parented c (omega arith) in
          ih (up owners c) w (omega arith) real (omega arith) (omega arith) k (omega (arith, S.after c (omega arith) (omega arith))) (omega (arith, S.within c (omega arith) (omega arith))) d e
      go (no i) (no j) ih = omega (arith, S.apart c w l real (omega arith))

  -- how the spans of c and w lie, by whether c is above w
  record Lie (c w : ℕ) (above : Bool) : Type 0 where
    inside : above ≡ true → (get_or entries c 0 < get_or entries w 0) × (get_or exits w 0 ≤ get_or exits c 0)
    outside : above ≡ false → Apart c w

  module _ (c : ℕ) where
    below : (w : ℕ) → w < length p → 0 < get_or owners w 0 → (b : Bool) → Lie c (up owners w) b → Lie c w b
    below w h k b L =
        let i = S.after w h k in
        let j = S.within w h k in
        record { inside = λ e. (omega (arith, L.inside e), omega (arith, L.inside e)); outside = λ e x q r s t. L.outside e x q r (omega arith) (omega arith) }

    apart : (w : ℕ) → c < w → w < length p → get_or owners w 0 ≤ c → Lie c w false
    apart w k real h = record { inside = λ z. absurd (false≢true z); outside = λ _. beside (suc (c + w)) c w (omega arith) real k h }

    lie : (f w : ℕ) → w ≤ f → c < w → w < length p → Lie c w (member (path p c w) c)
    unfolding member any
    lie zero w h k real = absurd (omega arith)
    lie (suc f) w h k real = top (ℕ_discrete (get_or owners w 0) 0) (lie f (up owners w))
      where
        Above : Type 0
        Above = up owners w ≤ f → c < up owners w → up owners w < length p → Lie c (up owners w) (member (path p c (up owners w)) c)

        go : 0 < get_or owners w 0 → Dec (c < up owners w) → Dec (c ≡ up owners w) → Above → Lie c w (member (path p c (up owners w)) c)
        go o (yes l) _ ih = let r = R.parented w real in below w real o _ (ih (omega arith) l (omega arith))
        go o (no l) (yes e) ih = rw (path_end p owners R c (up owners w) (omega arith), eq-eqb c (up owners w) e) (record {
          inside = λ _. rw e (S.after w real o, S.within w real o);
          outside = λ z. absurd (true≢false z);
        })
        go o (no l) (no e) ih = rw (path_end p owners R c (up owners w) (omega arith), ne_eqb c (up owners w) e) (apart w k real (omega arith))

        top : Dec (get_or owners w 0 ≡ 0) → Above → Lie c w (member (path p c w) c)
        top (yes e) ih = rw (path_root p owners R c w real e, ne_eqb c w (omega arith)) (apart w k real (omega arith))
        top (no n) ih =
            let o : 0 < get_or owners w 0 = omega arith in
            rw (path_step p owners R c w k real o, ne_eqb c w (omega arith)) (go o (dec_lt c (up owners w)) (ℕ_discrete c (up owners w)) ih)

    pub ancestor_is : (w : ℕ) → c < w → w < length p → spanned entries exits c w ≡ ancestor (plain p) c w
    unfolding ancestor
    ancestor_is w k real = rw (lt-ltb c w k) (go (member (path p c w) c) (lie w w (omega arith) k real))
      where
        go : (b : Bool) → Lie c w b → spanned entries exits c w ≡ b
        go true L =
            let (i, j) = L.inside refl in
            let s = S.some w real in
            rw (lt-ltb (get_or entries c 0) (get_or entries w 0) i, lt-ltb (get_or entries w 0) (get_or exits c 0) (omega arith)) refl
        go false L = fails_holds (and_tells (ltb_tells (get_or entries c 0) (get_or entries w 0)) (ltb_tells (get_or entries w 0) (get_or exits c 0)))
            (λ (i, j). L.outside refl (get_or entries w 0) (omega arith) j (omega arith) (omega (arith, S.some w real)))

-- v is below c where its entry lies in the span of c
pub record AncestorsTold (p : Proof) (entries exits : List ℕ) : Type 0 where
  pub tells : (c v : ℕ) → c < v → v < length p → spanned entries exits c v ≡ ancestor (plain p) c v

-- of every proof with these parents
abbrev pub SpansFilled : List ℕ → ℕ → List ℕ → List ℕ → Type 0
SpansFilled owners n entries exits = (p : Proof) → length p ≡ n → Owned p n owners → AncestorsTold p entries exits

pub spans_tell : (owners : List ℕ) (n : ℕ) (entries exits : List ℕ) → Parented owners n → Spans owners n entries exits → SpansFilled owners n entries exits
spans_tell owners n entries exits P S p size O = record { tells = ancestor_is p owners (record { owned = rw size O; parented = rw size P }) entries exits (rw size S) }

-- what has no larger number is no descendant
pub not-below : (p : Proof) (c v : ℕ) → v ≤ c → ancestor (plain p) c v ≡ false
unfolding ancestor
not-below p c v h = rw (le-ltb c v h) refl
