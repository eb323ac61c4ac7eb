-- a mask that is cut off is refused by the law of HeaderSteps
use Rattle.model.specs.HeaderSteps.{masked_short}
use Rattle.model.proofs.header.mask_after.Goals as goal

pub returns-then-bytes-at : goal.returns-then-bytes-at
returns-then-bytes-at c = rw c.at.ensures (masked_short _ _ c.requires.1 c.if-bytes-at.true)
