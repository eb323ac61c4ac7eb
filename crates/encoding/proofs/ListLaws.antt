-- the parser of a list of rising numbers is exact
use Rattle.std.specs.Prelude.{Bool}
use mathlib.Core.List.{List}
use Prim.Native.Nat.{ℕ}
use Rattle.std.proofs.Math.ListN.{length}
use Rattle.verdict.specs.Lists.{Each, Rising}
use Rattle.verdict.specs.Tells.{Tells}
use Rattle.encoding.specs.Encode.{encode_counted}
use Rattle.encoding.specs.Parse.{Parser, times, rising}
use Rattle.encoding.specs.ChainLaws.{From, chain_rising, chain_members}
use Rattle.encoding.proofs.ChainLaws.{rising_chain}
use Rattle.encoding.specs.ParseLaws.{Exact, exact_as, guard_exact}
use Rattle.encoding.specs.ListLaws.{counted_exact, from_tells}

module _ {number : Parser ℕ} {ec : ℕ → List ℕ} {C : ℕ → Type 0} (K : Exact number ec C) where
  pub rising_exact : {p : Parser ℕ} {e : ℕ → List ℕ} {P Q : ℕ → Type 0} {ok : ℕ → Bool} → Exact p e P → ((x : ℕ) → Tells (ok x) (Q x)) → (k : ℕ)
      → Exact (rising number ok k p) (encode_counted ec e) (λ l. C (length l) × Rising l × Each (λ x. P x × Q x) l)
  unfolding times
  rising_exact {P = P} {Q = Q} X T k =
      exact_as (λ l h. (h.0, chain_rising h.1, chain_members h.1)) (λ l h. (h.0, rising_chain h.1 h.2))
      (counted_exact {P = From P Q} (λ c. guard_exact X k (from_tells T c)) K)
