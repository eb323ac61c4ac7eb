-- the header of a state is read as it is written
use Rattle.std.specs.Prelude.{refl, Bool, ℕ, ◌≤◌, ◌^◌}
use Rattle.std.proofs.Common.{arith}
use Rattle.verdict.specs.Tells.{Tells, if_tells, not_tells, leb_tells, eqb_tells}
use Rattle.encoding.specs.Encode.{OneByte, encode_byte}
use Rattle.encoding.specs.Parse.{seq, part, four}
use Rattle.encoding.specs.ParseLaws.{Exact, exact_as, seq_exact, guard_exact, part_exact, byte_exact, two_exact}
use Rattle.encoding.proofs.ParseLaws.{four_exact}
use Rattle.encoding.specs.Known.{known_exact}
use Rattle.model_files.specs.ModelFile.{Form, mdl1, mdl2, encode_actions}
use Rattle.model_files.specs.ReadModel.{early, map, not-zero, masked, actions, header}
use Rattle.model_files.specs.Header.{letters_stand, list_stands, FitPart, NotZero, encode_masked, Masked, FitMasked, Actions, FitActions, encode_header, Header, FitHeader}

pub filled_tells : (stands : Bool) (x : ℕ) → Tells (not-zero stands x) (NotZero stands x)
filled_tells stands x = if_tells (record { says = λ h. h; holds = λ h. h }) (not_tells (eqb_tells x 0))

pub map_exact : Exact map encode_byte (λ m. OneByte m × (m ≤ 3))
map_exact = guard_exact (byte_exact early) _ (λ m. leb_tells m 3)

-- the map; the mask, or no byte
pub mask_exact : Exact (seq map (λ m. part 0 (letters_stand m) (four early))) encode_masked Masked
mask_exact =
    exact_as (λ w h. record { map_fits_lem = h.0.1; mask_fits = h.1 }) (λ w h. ((omega (arith, h.map_fits_lem), h.map_fits_lem), h.mask_fits))
    (seq_exact map_exact (λ m _. part_exact (FitPart (2 ^ 32)) (four_exact early) refl (λ x h. h) (letters_stand m)))

pub masked_exact : Exact masked encode_masked FitMasked
masked_exact =
    exact_as (λ w h. record { there = h.0; filled = h.1 }) (λ w h. (h.there, h.filled))
    (guard_exact mask_exact _ (λ w. filled_tells (letters_stand w.0) w.1))

module _ (f : Form) where
  acted : (g : Form) → Exact (actions g) (encode_actions g) (Actions g)
  acted mdl1 = known_exact 1
  acted mdl2 = two_exact early

  pub actions_exact : Exact (seq masked (λ w. part 0 (list_stands w.0) (actions f))) (encode_header f) (Header f)
  actions_exact =
      exact_as (λ h z. record { masked = z.0; actions_fit = z.1 }) (λ h z. (z.masked, z.actions_fit))
      (seq_exact masked_exact (λ w _. part_exact (FitActions f) (acted f) refl (λ x h. h) (list_stands w.0)))

  pub header_exact : Exact (header f) (encode_header f) (FitHeader f)
  header_exact =
      exact_as (λ h z. record { there = z.0; filled = z.1 }) (λ h z. (z.there, z.filled))
      (guard_exact actions_exact _ (λ h. filled_tells (list_stands h.0.0) h.1))
