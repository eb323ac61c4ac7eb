-- one number written at every root of a table: the roots are marked before the owners are looked for, and cleared after
use Rattle.std.specs.Prelude.{◌≡◌, refl, Bool, true, false, List, [], ◌∷◌, ℕ, zero, suc, ◌+◌, ◌<◌, ◌≤◌, length, get_or, set, take}
use Rattle.std.proofs.Common.{sym, ap, ◌∙◌, arith, length-set, get_or-set_same, get_or-set_other}
use Rattle.std.proofs.lemmas.Bool.{false≢true}
use mathlib.Core.List.Memᴰ
use Rattle.std.proofs.Math.Decide.{ℕ_discrete}
use Rattle.verdict.specs.Sets.{elements}
use Rattle.verdict.specs.Tests.{choose, member}
use Rattle.verdict.specs.Tells.{Tells}
use Rattle.verdict.specs.SetTells.{member_tells}
use Rattle.formula.specs.PlainNodes.{proof_of, proof_of_length}
use Rattle.calculus.specs.Steps.{owner_none}
use Rattle.tree.specs.Owners.{Ownerless, ROOT, TakenBy}

-- k roots, each a node
pub record RootsPlaced (os : List ℕ) (k n : ℕ) : Type 0 where
  pub few : k ≤ 16
  pub long : k ≤ length os
  pub inside : (i : ℕ) → i < k → get_or os i 0 < n

-- the table with a number at each of the first k roots, and else as before
pub record Stamped (os : List ℕ) (k x : ℕ) (before after : List ℕ) : Type 0 where
  pub room : length after ≡ length before
  pub at : (i : ℕ) → i < k → get_or after (get_or os i 0) 0 ≡ x
  pub else : (w : ℕ) → ((i : ℕ) → i < k → get_or os i 0 ≡ w → ⊥) → get_or after w 0 ≡ get_or before w 0

pub none_stamped : (os : List ℕ) (x : ℕ) (owners : List ℕ) → Stamped os 0 x owners owners
none_stamped os x owners = record { room = refl; at = λ i h. absurd (omega arith); else = λ w f. refl }

pub one_stamped : {os : List ℕ} {i x : ℕ} {before after : List ℕ} → Stamped os i x before after → get_or os i 0 < length before
    → Stamped os (i + 1) x before (set after (get_or os i 0) x)
one_stamped {os} {i} {x} {before} {after} s h = record {
  room = length-set after (get_or os i 0) x ∙ s.room;
  at = λ j k. at j k (ℕ_discrete (get_or os j 0) (get_or os i 0));
  else = λ w f. get_or-set_other after (get_or os i 0) w x 0 (λ e. f i (omega arith) (sym e)) ∙ s.else w (λ j k. f j (omega arith));
}
  where
    at : (j : ℕ) → j < i + 1 → Dec (get_or os j 0 ≡ get_or os i 0) → get_or (set after (get_or os i 0) x) (get_or os j 0) 0 ≡ x
    at j k (yes e) = rw e (get_or-set_same after (get_or os i 0) x 0 (omega (arith, s.room)))
    at j k (no n) = get_or-set_other after (get_or os i 0) (get_or os j 0) x 0 n ∙ s.at j (less (ℕ_discrete j i))
      where
        less : Dec (j ≡ i) → j < i
        less (yes e) = absurd (n (rw e refl))
        less (no m) = omega arith

-- the elements in front are those at the places in front
in_front : (l : List ℕ) (k w : ℕ) → elements (take k l) w → (i : ℕ) × (i < k) × (get_or l i 0 ≡ w)
in_front l zero w m = absurd (Memᴰ.not-nil m)
in_front [] (suc k) w m = absurd (Memᴰ.not-nil m)
in_front (x ∷ l) (suc k) w (Memᴰ.head e) = (0, (omega arith), sym e)
in_front (x ∷ l) (suc k) w (Memᴰ.tail m) = let (i, h, e) = in_front l k w m in (suc i, (omega arith), e)

pub front_in : (l : List ℕ) (k i : ℕ) → i < k → k ≤ length l → elements (take k l) (get_or l i 0)
front_in l zero i h n = absurd (omega arith)
front_in [] (suc k) i h n = absurd (omega arith)
front_in (x ∷ l) (suc k) zero h n = Memᴰ.head refl
front_in (x ∷ l) (suc k) (suc i) h n = Memᴰ.tail (front_in l k i (omega arith) (omega arith))

pub stamped_is : {os : List ℕ} {k x : ℕ} {before after : List ℕ} → Stamped os k x before after → k ≤ length os → (w : ℕ)
    → get_or after w 0 ≡ choose (member (take k os) w) x (get_or before w 0)
stamped_is {os} {k} {x} {before} {after} s long w = go (member (take k os) w) (member_tells (take k os) w)
  where
    go : (b : Bool) → Tells b (elements (take k os) w) → get_or after w 0 ≡ choose b x (get_or before w 0)
    go true t = let (i, h, e) = in_front os k w (t.says refl) in rw (← e) (s.at i h)
    go false t = s.else w (λ i h e. false≢true (t.holds (rw (← e) (front_in os k i h long))))

-- before the first parent
pub none_taken : (rs ls : List ℕ) (n : ℕ) {os : List ℕ} {k : ℕ} {before after : List ℕ} → n ≤ length before → Ownerless before n → k ≤ length os
    → Stamped os k ROOT before after → TakenBy (take k os) rs ls n 0 after
none_taken rs ls n {os} {k} {before} {after} h e long s ss cs = record {
  room = omega (arith, proof_of_length rs ls ss cs n, s.room);
  each = λ w i.
      stamped_is s long w
      ∙ ap (choose (member (take k os) w) ROOT) (e w (omega (arith, proof_of_length rs ls ss cs n)) ∙ sym (owner_none (proof_of rs ls ss cs n) w));
}
