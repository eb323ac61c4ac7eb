-- `read_half` meets its contract: a well-formed claim is read, and never refused.
use Rattle.encoding.specs.ByteLaws.{lent_bytes}
use Rattle.joiner.specs.Reading.{half_held, half_not_refused}
use Rattle.joiner.proofs.read_half.Goals as goal

pub returns-in-Ok : goal.returns-in-Ok
returns-in-Ok c k F one =
    half_held _ (lent_bytes _ c.type_inv.claim) F one c.in-Ok.ensures

pub returns-in-Err : goal.returns-in-Err
returns-in-Err c k F one =
    absurd (half_not_refused _ (lent_bytes _ c.type_inv.claim) F one c.in-Err.ensures)
