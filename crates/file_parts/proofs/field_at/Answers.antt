-- A field that stands is a number; one that does not takes no bytes.
use Rattle.file_parts.specs.Numbers.{field_stands, field_skipped}
use Rattle.file_parts.proofs.field_at.Goals as goal

pub returns-then-stands : goal.returns-then-stands
returns-then-stands c = rw (field_stands _ _ _ c.if-stands.true) c.two_at.ensures

pub returns : goal.returns
returns c = field_skipped _ _ _ c.requires c.if-stands.false
