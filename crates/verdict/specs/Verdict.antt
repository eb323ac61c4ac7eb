-- what the input earns: accepted, or a refusal's number and place; and the scan for the first number that fails a test
use Rattle.std.specs.Prelude.{Bool, true, false, ℕ, zero, suc, ◌+◌, ◌*◌, ◌<◌}

pub data Verdict : Type 0 where
  accepted : Verdict
  refused : ℕ → ℕ → Verdict

-- the number that a call answers: 0 for accepted, or refusal × unit + place
abbrev pub packed_by : ℕ → Verdict → ℕ
packed_by unit accepted = 0
packed_by unit (refused n q) = n * unit + q

-- in 32 bits; an evaluation, whose places are wider, answers in 64
abbrev pub packed : Verdict → ℕ
packed v = packed_by 65536 v

abbrev pub packed_wide : Verdict → ℕ
packed_wide v = packed_by 4294967296 v

-- the place lies below the unit, so that the number tells refusal and place
abbrev pub Within : ℕ → Verdict → Type 0
Within unit accepted = Unit {0}
Within unit (refused n q) = q < unit

abbrev pub pick : Bool → Verdict → Verdict → Verdict
pick true x y = x
pick false x y = y

-- n numbers from v on: the first that fails is refused, else the rest decides
unfoldable pub scan : (ℕ → Bool) → (ℕ → ℕ) → ℕ → ℕ → Verdict → Verdict
scan ok number zero v rest = rest
scan ok number (suc n) v rest =
    let more = scan ok number n (suc v) rest in
    pick (ok v) more (refused (number v) v)
