-- what is cut off and what is whole: the laws of HeaderSteps
use Rattle.model.specs.HeaderSteps.{header_short, header_whole}
use Rattle.model.proofs.header.actions_after.Goals as goal

pub returns-then-bytes-next : goal.returns-then-bytes-next
returns-then-bytes-next c = rw c.at.ensures (header_short _ _ c.requires.1 c.if-bytes-next.true)

pub returns : goal.returns
returns c = header_whole _ _ c.requires.1 c.if-bytes-next.false c.word_at-actions.ensures c.if-actions-eq0.false
