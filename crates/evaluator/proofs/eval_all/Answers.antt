use native.Mathlib.Omega.{arith}
use Rattle.evaluator.specs.Swept.{swept_known}
use Rattle.evaluator.proofs.eval_all.Goals as goal

pub eval_entry-requires : goal.eval_entry-requires
eval_entry-requires c =
    let swept = c.loop-e.invariant in record {
      standing = swept.standing;
      e_in_bounds = (omega arith, swept_known _ _ _ _ _ _ _ _ _ swept _ (omega arith));
    }
