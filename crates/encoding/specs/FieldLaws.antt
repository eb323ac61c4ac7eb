-- a two-byte field that may be lacking takes no more than its bytes
use Rattle.std.specs.Prelude.{refl, Bool, ℕ}
use Rattle.bits.specs.IfSet.{if_set_lem}
use Rattle.encoding.specs.Parse.{field}
use Rattle.encoding.specs.Widths.{Takes, part_takes, two_takes}

module _ (early : ℕ) where
  pub field_takes : (b : Bool) → Takes early (field early b) (if_set_lem b 2)
  field_takes b = part_takes 0 (λ b. if_set_lem b 2) (two_takes early) refl b
