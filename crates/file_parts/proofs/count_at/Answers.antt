-- The number that stands there is tested against both ends of its range.
use native.Mathlib.Omega.{arith}
use Rattle.verdict.proofs.PassedOn.{passed_on}
use Rattle.file_parts.specs.Numbers.{count_cut, count_read, count_unfit}
use Rattle.file_parts.proofs.count_at.Goals as goal
use Rattle.file_parts.proofs.count_at.Goals.{then-count-least-via-then-count-least, then-count-least-via-else-count-least+then-top-count}

pub returns-in_err-count : goal.returns-in_err-count
returns-in_err-count c = rw (passed_on _ c.from_residual.ensures.1) (count_cut _ _ _ _ _ _ c.in_err-count.ensures)

pub returns-then-count-least : goal.returns-then-count-least
returns-then-count-least c =
    count_unfit _ _ _ _ _ _ c.in_ok-count.ensures (λ h. elim c.then-count-least.branch [
      | then-count-least-via-then-count-least w ↦ omega (arith, h, w.if-count-least.true)
      | then-count-least-via-else-count-least+then-top-count w ↦ omega (arith, h, w.if-top-count.true)
    ])

pub returns : goal.returns
returns c = count_read _ _ _ _ _ _ c.in_ok-count.ensures c.if-count-least.false c.if-top-count.false
