-- the single check's promise: its answer is the verdict's number, demand 3 stands in it, and what it refuses is earned
use Rattle.std.specs.Prelude.{◌≡◌, ◌↔◌, List, ℕ}
use Rattle.verdict.specs.Verdict.{packed}
use Rattle.demands.specs.Correct.{Correct, Irrefutable}
use Rattle.demands.specs.Earned.{Earned}
use Rattle.demands.specs.RefusedAs.{RefusedAs}
use Rattle.demands.specs.Check.{verdict}

pub record SingleCheck (claim proof : List ℕ) (r : ℕ) : Type 0 where
  -- 0 for accepted, or refusal × 65,536 + place, of the first fault in document 01's order
  pub answer : r ≡ packed (verdict claim proof)
  -- accepted: in every finite model every state has a member of the claim that is true there
  pub sound : r ≡ 0 → Irrefutable claim
  -- accepted exactly when claim and proof are well formed and keep every rule
  pub exact : (r ≡ 0) ↔ Correct claim proof
  -- any other answer is the refusal that they earn, and what they earn is answered; the number tells which it is, and where
  pub refuses : RefusedAs 65536 (Earned claim proof) r
