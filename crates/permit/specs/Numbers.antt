-- the numbers that C calls answer
use Rattle.std.specs.Prelude.{ℕ, ◌+◌, ◌^◌}
use Rattle.verdict.specs.Verdict.{refused, packed}
use Rattle.permit.specs.GateState.{Permit, granted, denied}

-- taking answers the tag, or 2 ^ 32 + refusal × 65,536 + place
abbrev pub packed_permit : Permit → ℕ
packed_permit (granted tag) = tag
packed_permit (denied n q) = 2 ^ 32 + packed (refused n q)
