-- which faults the parser of a list of rising numbers reports
use Rattle.std.specs.Prelude.{refl, Bool, length}
use mathlib.Core.List.{List, [], ◌∷◌, ◌++◌}
use Prim.Native.Nat.{ℕ, suc, ◌<◌, ◌≤◌}
use Rattle.verdict.specs.Lists.{Each, Rising}
use Rattle.verdict.specs.Tells.{Tells}
use Rattle.encoding.specs.Parse.{Parser, times, rising}
use Rattle.encoding.specs.Chain.{Chain, last}
use Rattle.encoding.specs.ChainLaws.{From, chain_rising, chain_members, rises, rises_back}
use Rattle.encoding.proofs.ChainLaws.{rising_chain}
use Rattle.encoding.specs.Stages.{Stages, Unfit, unfit, tested, climbing}
use Rattle.encoding.specs.ParseLaws.{Exact, guard_exact}
use Rattle.encoding.specs.ListLaws.{from_tells}
use Rattle.encoding.specs.Widths.{Takes}
use Rattle.encoding.specs.FaultLaws.{Refuses, Stands, refuses_as, tested_refuses}
use Rattle.encoding.specs.ListFaults.{counted_as, counted_refuses}

-- what fails a test fails a stronger one
stronger : (w : ℕ) {e : ℕ → List ℕ} {P Q S : ℕ → Type 0} (k : ℕ) → ((x : ℕ) → S x → Q x) → Stands (tested w e P Q k) (tested w e P S k)
stronger w {e} {P} {Q} {S} k f σ r = record { stage = tt; reached = tt; same = refl; wide = refl; wrongs = weaken }
  where
    weaken : (v : List ℕ) (n : ℕ) → Unfit e P Q k v n → Unfit e P S k v n
    weaken v n (unfit x h u) = unfit x h (λ z. u (f x z))

module _ {early : ℕ} {number : Parser ℕ} {ec : ℕ → List ℕ} {C : ℕ → Type 0} {K : Stages} (E : Exact number ec C) (R : Refuses early number K) where
  pub rising_refuses : {p : Parser ℕ} {w : ℕ} {e : ℕ → List ℕ} {P Q : ℕ → Type 0} {ok : ℕ → Bool} → Exact p e P → Takes early p w → ((x : ℕ) → Tells (ok x) (Q x)) → (k : ℕ)
      → Refuses early (rising number ok k p) (climbing ec C K w e P Q k)
  unfolding times
  rising_refuses {w = w} {e = e} {P = P} {Q = Q} F T U k =
      refuses_as
      (counted_as ec C K e chained words low above
      (λ m l h. ((h.0, chain_rising h.1, chain_members h.1), stronger w k (λ x (r, q). (rises l x r, q)))))
      (counted_as ec C K e words chained above low
      (λ m l h. ((h.0, rising_chain h.1 h.2), stronger w k (λ x (r, q). (rises_back l x h.1 r, q)))))
      (counted_refuses (λ c. guard_exact F k (from_tells U c)) (λ c. tested_refuses T F k (from_tells U c)) E R)
    where
      chained : ℕ → List ℕ → Type 0
      chained m l = (length l < m) × Chain (From P Q) (λ _ x. suc x) 0 l

      words : ℕ → List ℕ → Type 0
      words m l = (length l < m) × Rising l × Each (λ x. P x × Q x) l

      low : List ℕ → Stages
      low l = tested w e P (λ x. (last (λ _ x. suc x) 0 l ≤ x) × Q x) k

      above : List ℕ → Stages
      above l = tested w e P (λ x. Rising (l ++ (x ∷ [])) × Q x) k
