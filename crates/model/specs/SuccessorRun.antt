-- successors that were read are the bytes that stand there: few, and each a state
use Rattle.std.specs.Prelude.{◌≡◌, refl, List, [], ◌∷◌, Bool, true, false, ℕ, zero, suc, ◌+◌, ◌<◌, ◌≤◌, ltb, length, get_or, take, drop}
use Rattle.std.proofs.Common.{sym, ap, ◌∙◌, arith}
use Rattle.verdict.specs.Tells.{Tells, ltb_tells}
use Rattle.encoding.specs.Parse.{fault, got, pick, bind, times, fits_from}
use Rattle.encoding.specs.GotLaws.{fault_not_got, same_value, same_left, got_place, bind_got}
use Rattle.encoding.specs.ListLaws.{from_tells}
use Rattle.model.specs.ListSteps.{one_successor, after_successor}

-- k successors in a model of n states, each at least c, were read from s on
pub record Run (n c k : ℕ) (s : List ℕ) (at : ℕ) (l r : List ℕ) (o : ℕ) : Type 0 where
  pub taken : l ≡ take k s
  pub left : r ≡ drop k s
  pub place : o ≡ at + k
  pub room : k ≤ length s
  pub few : c ≤ n → c + k ≤ n
  pub below : (j : ℕ) → j < k → get_or s j 0 < n

pub run : (n k c : ℕ) (s : List ℕ) (at : ℕ) {l r : List ℕ} {o : ℕ} → times (one_successor n) after_successor k c s at ≡ got l r o → Run n c k s at l r o
unfolding times
run n zero c s at h = record {
  taken = sym (same_value h);
  left = sym (same_left h);
  place = omega (arith, got_place h);
  room = omega arith;
  few = λ g. omega arith;
  below = λ j g. absurd (omega arith);
}
run n (suc k) c [] at h = absurd (fault_not_got h)
run n (suc k) c (x ∷ s) at {l} {r} {o} h = go (fits_from (λ u. ltb u n) c x) (from_tells (λ u. ltb_tells u n) c x) h (λ m r o e. run n k (suc x) s (suc at) e)
  where
    go : (b : Bool) → Tells b ((c ≤ x) × (x < n))
        → bind (pick b (got x s (suc at)) (fault 64 at)) (λ y t z. bind (times (one_successor n) after_successor k (suc y) t z) (λ m u w. got (y ∷ m) u w)) ≡ got l r o
        → ((m r : List ℕ) (o : ℕ) → times (one_successor n) after_successor k (suc x) s (suc at) ≡ got m r o → Run n (suc x) k s (suc at) m r o)
        → Run n c (suc k) (x ∷ s) at l r o
    go false t h more = absurd (fault_not_got h)
    go true t h more =
        let one = bind_got (times (one_successor n) after_successor k (suc x) s (suc at)) (λ m u w. got (x ∷ m) u w) h in
        let rest = more one.first one.rest one.place one.was in
        let fits = t.says refl in
        record {
          taken = sym (same_value one.then) ∙ ap (λ (m : List ℕ). x ∷ m) rest.taken;
          left = sym (same_left one.then) ∙ rest.left;
          place = omega (arith, got_place one.then, rest.place);
          room = omega (arith, rest.room);
          few = λ g. omega (arith, rest.few (omega (arith, fits)), fits);
          below = at_each fits.1 rest.below;
        }
      where
        at_each : x < n → ((j : ℕ) → j < k → get_or s j 0 < n) → (j : ℕ) → j < suc k → get_or (x ∷ s) j 0 < n
        at_each f g zero l = f
        at_each f g (suc j) l = g j (omega arith)
