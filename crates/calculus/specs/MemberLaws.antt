-- whether two members are the same
use Rattle.std.specs.Prelude.{◌≡◌}
use Rattle.std.proofs.Common.{ap, ap₂}
use Rattle.std.proofs.Math.Decide.{ℕ_discrete}
use Rattle.written.specs.Form.{same_form}
use Rattle.calculus.specs.Sequents.{Member}

pub same_member : (m n : Member) → Dec (m ≡ n)
same_member (F, f) (G, g) = go (same_form F G) (ℕ_discrete f g)
  where
    go : Dec (F ≡ G) → Dec (f ≡ g) → Dec (◌≡◌ {A = Member} (F, f) (G, g))
    go (yes p) (yes q) = yes (ap₂ {C = Member} (λ a b. (a, b)) p q)
    go (no n) q = no (λ e. n (ap (λ (m : Member). m.0) e))
    go (yes p) (no n) = no (λ e. n (ap (λ (m : Member). m.1) e))
