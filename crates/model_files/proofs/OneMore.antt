-- one list more of a state follows those before it, and its count is judged in sight of them all
use Rattle.std.specs.Prelude.{◌≡◌, Bool, not, eqb}
use Rattle.std.proofs.Math.Path.{refl, ap}
use Rattle.std.proofs.Common.{◌∙◌}
use mathlib.Core.List.{List, [], ◌∷◌, ◌++◌}
use Rattle.std.proofs.Math.Bool.{true, false}
use Prim.Native.Nat.{ℕ, zero, suc, ◌+◌}
use native.Mathlib.Omega.{arith}
use Rattle.encoding.specs.Parse.{Got, fault, got, Parser, pick, bind, part, times, byte}
use Rattle.model_files.specs.ModelFile.{Form}
use Rattle.model_files.specs.Header.{Head, Begun}
use Rattle.model_files.specs.ReadModel.{early, not-zero, header, successors, list, next_list, lists, begun}
use Rattle.model_files.specs.OneMore.{one_more_lem, some, stands, with_list}

bind_then : {A B C : Type 0} (g : Got A) (F : A → List ℕ → ℕ → Got C) (G : A → List ℕ → ℕ → Got B) (H : B → List ℕ → ℕ → Got C)
    → ((x : A) (r : List ℕ) (o : ℕ) → F x r o ≡ bind (G x r o) H) → bind g F ≡ bind (bind g G) H
bind_then (fault n q) F G H e = refl
bind_then (got x r o) F G H e = e x r o

-- the last of k + 1 values is read after the first k
times_last : {A : Type 0} (p : ℕ → Parser A) (k c : ℕ) (s : List ℕ) (at : ℕ)
    → times p (λ c _. suc c) (suc k) c s at ≡ bind (times p (λ c _. suc c) k c s at) (λ l r o. bind (p (c + k) r o) (λ x t z. got (l ++ (x ∷ [])) t z))
unfolding times
times_last p zero c s at = let e : c + 0 ≡ c = omega arith in rw e refl
times_last {A} p (suc k) c s at =
    bind_then (p c s at) (λ x r o. bind (times p (λ c _. suc c) (suc k) (suc c) r o) (λ l t z. got (x ∷ l) t z)) _ _
    (λ x r o. ap (λ (g : Got (List A)). bind g (λ l t z. got (x ∷ l) t z)) (times_last p k (suc c) r o) ∙ after x (times p (λ c _. suc c) k (suc c) r o))
  where
    after : (x : A) (g : Got (List A))
        → bind (bind g (λ l r o. bind (p (suc c + k) r o) (λ y t z. got (l ++ (y ∷ [])) t z))) (λ l t z. got (x ∷ l) t z)
        ≡ bind (bind g (λ l t z. got (x ∷ l) t z)) (λ l r o. bind (p (c + suc k) r o) (λ y t z. got (l ++ (y ∷ [])) t z))
    after x (fault n q) = refl
    after x (got l r o) = let e : c + suc k ≡ suc c + k = omega arith in rw e (last (p (suc c + k) r o))
      where
        last : (g : Got A) → bind (bind g (λ y t z. got (l ++ (y ∷ [])) t z)) (λ l t z. got (x ∷ l) t z) ≡ bind g (λ y t z. got ((x ∷ l) ++ (y ∷ [])) t z)
        last (fault n q) = refl
        last (got y t z) = refl

module _ (n c at : ℕ) where
  -- what follows the lists before
  abbrev follows : Begun → List ℕ → ℕ → Got Begun
  unfolding times
  follows w r o = bind (next_list at n w.0.1 c r o) (λ l t z. got (w.0, w.1 ++ (l ∷ [])) t z)

  lists_last : (h : Head) (r : List ℕ) (o : ℕ)
      → bind (lists at n h.1 (suc c) r o) (λ l t z. got (h, l) t z) ≡ bind (bind (lists at n h.1 c r o) (λ l t z. got (h, l) t z)) follows
  unfolding lists times
  lists_last h r o =
      ap (λ (g : Got (List (List ℕ))). bind g (λ l t z. got (h, l) t z)) (times_last (next_list at n h.1) c 0 r o)
      ∙ go (times (next_list at n h.1) (λ c _. suc c) c 0 r o)
    where
      go : (g : Got (List (List ℕ)))
          → bind {B = Begun} (bind g (λ l r o. bind (next_list at n h.1 (0 + c) r o) (λ x t z. got (l ++ (x ∷ [])) t z))) (λ l t z. got (h, l) t z)
          ≡ bind (bind g (λ l t z. got (h, l) t z)) follows
      go (fault k q) = refl
      go (got l r o) = let e : 0 + c ≡ c = omega arith in rw e (last (next_list at n h.1 c r o))
        where
          last : (g : Got (List ℕ)) → bind {B = Begun} (bind g (λ x t z. got (l ++ (x ∷ [])) t z)) (λ l t z. got (h, l) t z) ≡ bind g (λ x t z. got (h, l ++ (x ∷ [])) t z)
          last (fault k q) = refl
          last (got x t z) = refl

  by_lists : (f : Form) (s : List ℕ) → begun f n (suc c) s at ≡ bind (begun f n c s at) follows
  unfolding begun times
  by_lists f s = bind_then (header f s at) _ _ follows lists_last

  -- by its count, and then its successors
  abbrev with_count : Bool → Begun → List ℕ → ℕ → Got (Begun × ℕ)
  with_count b w r o =
      bind (bind (part 0 b (byte early) r o) (λ k t z. got (w, k) t z)) (λ z r o. pick (not-zero b z.1) (got z r o) (fault 63 at))

  abbrev with_successors : Got (Begun × ℕ) → Got Begun
  unfolding times
  with_successors g = bind (bind g (λ z r o. bind (successors n z.1 r o) (λ l t y. got (z, l) t y))) (λ y r o. got (with_list y) r o)

  in_sight : (b : Bool) (w : Begun) (r : List ℕ) (o : ℕ)
      → bind (part [] b (list at n) r o) (λ l t z. got (w.0, w.1 ++ (l ∷ [])) t z) ≡ with_successors (with_count b w r o)
  unfolding times
  in_sight false w r o = refl
  in_sight true w [] o = refl
  in_sight true w (k ∷ r) o = go (not (eqb k 0))
    where
      read : (g : Got (List ℕ)) → bind g (λ l t z. got (w.0, w.1 ++ (l ∷ [])) t z) ≡ bind (bind g (λ l t y. got ((w, k), l) t y)) (λ y r o. got (with_list y) r o)
      read (fault m q) = refl
      read (got l t z) = refl

      go : (b : Bool) → bind (bind (pick b (got k r (suc o)) (fault 63 at)) (λ m r o. successors n m r o)) (λ l t z. got (w.0, w.1 ++ (l ∷ [])) t z)
          ≡ with_successors (pick b (got (w, k) r (suc o)) (fault 63 at))
      go false = refl
      go true = read (successors n k r (suc o))

  pub one_more : (f : Form) (s : List ℕ) → begun f n (suc c) s at ≡ one_more_lem f n c s at
  unfolding times
  one_more f s = by_lists f s ∙ go (begun f n c s at)
    where
      go : (g : Got Begun) → bind g follows
          ≡ with_successors (bind (bind g (λ w r o. bind (part 0 (stands c w) (byte early) r o) (λ k t z. got (w, k) t z))) (λ z r o. pick (some c z) (got z r o) (fault 63 at)))
      go (fault k q) = refl
      go (got w r o) = in_sight (stands c w) w r o ∙ ap with_successors (same (part 0 (stands c w) (byte early) r o))
        where
          same : (g : Got ℕ)
              → bind (bind {B = Begun × ℕ} g (λ k t z. got (w, k) t z)) (λ z r o. pick (not-zero (stands c w) z.1) (got z r o) (fault 63 at))
              ≡ bind (bind {B = Begun × ℕ} g (λ k t z. got (w, k) t z)) (λ z r o. pick (some c z) (got z r o) (fault 63 at))
          same (fault k q) = refl
          same (got k t z) = refl
