-- Two bytes stand at the place, or the file ends before them: the step laws of a number.
use Rattle.file_parts.specs.Numbers.{two_cut, two_read}
use Rattle.file_parts.proofs.two_at.Goals as goal

pub returns-then-bytes-at-lt2 : goal.returns-then-bytes-at-lt2
returns-then-bytes-at-lt2 c = two_cut _ _ _ c.requires c.if-bytes-at-lt2.true

pub returns : goal.returns
returns c = two_read _ _ _ c.requires c.if-bytes-at-lt2.false c.join.ensures
