-- which faults the parsers of lists report
use Rattle.std.proofs.Math.Path.{◌≡◌, sym}
use Rattle.std.specs.Prelude.{refl, length}
use Rattle.std.proofs.Common.{ap}
use Rattle.std.proofs.Math.Logic.{inl, inr}
use mathlib.Core.List.{List, [], ◌∷◌, ◌++◌, append_assoc}
use Prim.Native.Nat.{ℕ, zero, suc, ◌<◌}
use native.Mathlib.Omega.{arith}
use Rattle.verdict.specs.Lists.{Each}
use Rattle.encoding.specs.Encode.{encode_all, Counts}
use Rattle.encoding.specs.Parse.{Got, fault, got, Parser, via, times, counted, listed, count}
use Rattle.encoding.specs.Chain.{Chain, ends, goes, last}
use Rattle.encoding.specs.ChainLaws.{chain_each, each_chain}
use Rattle.encoding.specs.Stages.{Stages, Stopped, ends_early, wrong, tested, after, followed, items, listing}
use Rattle.encoding.specs.GotLaws.{fault_not_got}
use Rattle.encoding.specs.ParseLaws.{Exact}
use Rattle.encoding.specs.ListLaws.{range_tells}
use Rattle.encoding.specs.Widths.{Takes}
use Rattle.encoding.specs.FaultLaws.{Refuses, Stands, Renames, renames_each, refuses_as, via_refuses, then_refuses, tested_refuses}

module _ {A : Type 0} (e : A → List ℕ) (P : ℕ → A → Type 0) (next : ℕ → A → ℕ) (X : ℕ → Stages) (m c : ℕ) where
  -- the first of the values, then the others
  abbrev Split : Stages
  Split = followed e (P c) (X c) (λ x. items e P next X m (next c x))

  abbrev Whole : Stages
  Whole = items e P next X (suc m) c

  split_whole : Stands Split Whole
  unfolding last encode_all
  split_whole (inl σ) r = record { stage = ([], σ); reached = ((omega arith, ends), r); same = refl; wide = refl; wrongs = λ w n u. u }
  split_whole (inr (x, (l, σ))) (f, ((i, k), r)) = record {
    stage = (x ∷ l, σ);
    reached = ((omega arith, goes f k), r);
    same = append_assoc (e x) (encode_all e l) _;
    wide = refl;
    wrongs = λ w n u. u;
  }

  whole_split : Stands Whole Split
  unfolding last encode_all
  whole_split ([], σ) ((i, k), r) = record { stage = inl σ; reached = r; same = refl; wide = refl; wrongs = λ w n u. u }
  whole_split (x ∷ l, σ) ((i, goes f k), r) = record {
    stage = inr (x, (l, σ));
    reached = (f, ((omega arith, k), r));
    same = sym (append_assoc (e x) (encode_all e l) _);
    wide = refl;
    wrongs = λ w n u. u;
  }

module _ {A : Type 0} {early : ℕ} {p : ℕ → Parser A} {next : ℕ → A → ℕ} {e : A → List ℕ} {P : ℕ → A → Type 0} {X : ℕ → Stages}
    (E : (c : ℕ) → Exact (p c) e (P c)) (R : (c : ℕ) → Refuses early (p c) (X c)) where
  pub times_refuses : (m c : ℕ) → Refuses early (times p next m c) (items e P next X m c)
  unfolding times
  times_refuses zero c = record { says = λ s at n q b h. absurd (fault_not_got (sym h)); holds = none_left }
    where
      none_left : (s : List ℕ) (at n q : ℕ) → Stopped early (items e P next X zero c) s at n q → ◌≡◌ {A = Got (List A)} (got [] s at) (fault n q)
      none_left s at n q (ends_early σ t r i l) = absurd (omega (arith, r.0.0))
      none_left s at n q (wrong σ w t r i k) = absurd (omega (arith, r.0.0))
  times_refuses (suc m) c =
      refuses_as
      (renames_each (split_whole e P next X m c))
      (renames_each (whole_split e P next X m c))
      (then_refuses (R c) (E c) {B = List A} {k = λ x. via (λ (l : List A). x ∷ l) (times p next m (next c x))} {Y = λ x. items e P next X m (next c x)}
      (λ x h. via_refuses (times_refuses m (next c x)) (λ (l : List A). x ∷ l)))

  pub counted_refuses : {number : Parser ℕ} {ec : ℕ → List ℕ} {C : ℕ → Type 0} {K : Stages} → Exact number ec C → Refuses early number K
      → Refuses early (counted number p next) (followed ec C K (λ m. items e P next X m 0))
  unfolding times
  counted_refuses E' R' = then_refuses R' E' {B = List A} {k = λ m. times p next m 0} {Y = λ m. items e P next X m 0} (λ m _. times_refuses m 0)

pub count_refuses : {early : ℕ} (least top k : ℕ) {p : Parser ℕ} {w : ℕ} {e : ℕ → List ℕ} {P : ℕ → Type 0} → Takes early p w → Exact p e P
    → Refuses early (count least top k p) (tested w e P (Counts least top) k)
count_refuses least top k T X = tested_refuses T X k (range_tells least top)

-- a count, then as many values, with what is known of those before the next
abbrev Counted : {A : Type 0} → (ℕ → List ℕ) → (ℕ → Type 0) → Stages → (A → List ℕ) → (ℕ → List A → Type 0) → (List A → Stages) → Stages
Counted ec C K e P X = followed ec C K (λ m. after (encode_all e) (P m) X)

-- the same stages, with the values before the next in other words
pub counted_as : {A : Type 0} (ec : ℕ → List ℕ) (C : ℕ → Type 0) (K : Stages) (e : A → List ℕ) (P Q : ℕ → List A → Type 0) (X Y : List A → Stages)
    → ((m : ℕ) (l : List A) → P m l → Q m l × Stands (X l) (Y l)) → Renames (Counted ec C K e P X) (Counted ec C K e Q Y)
counted_as {A} ec C K e P Q X Y f = renames_each go
  where
    go : Stands (Counted ec C K e P X) (Counted ec C K e Q Y)
    go (inl σ) r = record { stage = inl σ; reached = r; same = refl; wide = refl; wrongs = λ w n u. u }
    go (inr (m, (l, σ))) (h, (i, r)) =
        let (j, g) = f m l i in
        let z = g σ r in
        record {
          stage = inr (m, (l, z.stage));
          reached = (h, (j, z.reached));
          same = ap (λ (d : List ℕ). ec m ++ (encode_all e l ++ d)) z.same;
          wide = z.wide;
          wrongs = z.wrongs;
        }

same_stages : {X : Stages} → Stands X X
same_stages σ r = record { stage = σ; reached = r; same = refl; wide = refl; wrongs = λ w n u. u }

module _ {early : ℕ} {number : Parser ℕ} {ec : ℕ → List ℕ} {C : ℕ → Type 0} {K : Stages} (E : Exact number ec C) (R : Refuses early number K) where
  pub listed_refuses : {A : Type 0} {p : Parser A} {e : A → List ℕ} {P : A → Type 0} {X : Stages} → Exact p e P → Refuses early p X
      → Refuses early (listed number p) (listing ec C K e P X)
  unfolding times
  listed_refuses {A} {e = e} {P = P} {X = X} F S =
      refuses_as
      (counted_as ec C K e chained words (λ _. X) (λ _. X) (λ m l h. ((h.0, chain_each h.1), same_stages)))
      (counted_as ec C K e words chained (λ _. X) (λ _. X) (λ m l h. ((h.0, each_chain h.1), same_stages)))
      (counted_refuses (λ _. F) (λ _. S) E R)
    where
      chained : ℕ → List A → Type 0
      chained m l = (length l < m) × Chain (λ _. P) (λ _ _. 0) 0 l

      words : ℕ → List A → Type 0
      words m l = (length l < m) × Each P l
