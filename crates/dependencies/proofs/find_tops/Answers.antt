use Prim.Native.Nat.{ℕ}
use native.Mathlib.Omega.{arith}
use lib.ListN.{length-replicate}
use Rattle.states.specs.Fill.{filled_set}
use Rattle.dependencies.specs.Tops.{top_next}
use Rattle.dependencies.proofs.find_tops.Goals as goal

pub loop-e-preserved : goal.loop-e-preserved
loop-e-preserved c =
    let claim = c.args.claim.now.is_claim in
    filled_set c.loop-e.invariant _ (omega (arith, claim.few, length-replicate {A = ℕ} 256 0))
    (top_next claim _ _ c.loop-e-test.true c.loop-e.invariant _ c.top_of.ensures)
