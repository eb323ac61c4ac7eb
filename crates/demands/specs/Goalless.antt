-- a claim with no goals (T-06) is irrefutable as it stands
use Rattle.std.specs.Prelude.{◌≡◌, List, [], ℕ, ◌<◌, length}
use Rattle.std.proofs.Common.{arith}
use Rattle.std.proofs.Math.Path.{ap}
use Rattle.formula.specs.Claim.{Claim, Derivation}
use Rattle.reader.specs.WellFormed.{ClaimFormed}
use Rattle.demands.specs.Correct.{Irrefutable}

-- no roots and no nodes
abbrev pub nothing : Derivation
nothing = record { roots = []; nodes = [] }

module _ {claim : List ℕ} {c : Claim} (F : ClaimFormed claim c) (no_goals : c.goals ≡ []) where
  no_goal : (i : ℕ) → i < length c.goals → ⊥
  no_goal i h = omega (arith, ap length no_goals)

  pub irrefutable : Irrefutable claim
  irrefutable = record { read = c; formed = F; some_true = λ i h. absurd (no_goal i h); none_refutes = λ i h. absurd (no_goal i h) }
