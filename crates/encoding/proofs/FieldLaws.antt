-- a two-byte field that may be lacking is read as it was encoded
use Rattle.std.specs.Prelude.{refl, Bool, ℕ}
use Rattle.encoding.specs.Encode.{encode_field, FitField}
use Rattle.encoding.specs.Parse.{field}
use Rattle.encoding.specs.ParseLaws.{Exact, part_exact, two_exact}

module _ (early : ℕ) where
  -- a field is two bytes, or 0 where the kind or rule lacks it
  pub field_exact : (b : Bool) → Exact (field early b) (encode_field b) (FitField b)
  field_exact b = part_exact FitField (two_exact early) refl (λ n h. h) b
