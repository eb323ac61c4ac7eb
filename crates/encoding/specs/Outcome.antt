-- the verdict on a file by itself: what it was refused with, or accepted
use Rattle.std.specs.Prelude.{◌≡◌, ℕ, ◌<◌}
use Rattle.verdict.specs.Verdict as verdicts
use Rattle.encoding.specs.File.{Reading, refused, good}

abbrev pub verdict_of : {A : Type 0} → Reading A → verdicts.Verdict
verdict_of (refused n q) = verdicts.refused n q
verdict_of (good x) = verdicts.accepted

-- refused, with a number and a place that fit two bytes
pub record RefusedWith {A : Type 0} (r : Reading A) (n q : ℕ) : Type 0 where
  pub was : r ≡ refused n q
  pub small : (n < 65536) × (q < 65536)
