-- a file that opens in neither form is refused with 10 at 0
use Rattle.std.specs.Prelude.{◌≡◌, List, false, ℕ}
use Rattle.verdict.specs.Tells.{fails, fails_holds}
use Rattle.formula.specs.Claim.{Form, clm1, clm2}
use Rattle.encoding.specs.File.{refused}
use Rattle.encoding.specs.FileLaws.{Opens}
use Rattle.encoding.specs.Walk.{file_closed}
use Rattle.encoding.specs.Opening.{opens, opens_tells}
use Rattle.claim_files.specs.ClaimFile.{claim_opening}
use Rattle.claim_files.specs.ReadClaim.{early, body, read_form, form_of, read_claim_lem}

-- neither opening stands in front
pub closed : (bytes : List ℕ) → ((f : Form) → Opens (claim_opening f) bytes → ⊥) → read_claim_lem bytes ≡ refused 10 0
unfolding read_claim_lem read_form
closed bytes h = file_closed (claim_opening (form_of bytes)) 10 early (body (form_of bytes)) bytes (fails_holds (opens_tells (claim_opening (form_of bytes)) bytes) (h (form_of bytes)))

-- the program's tests of the openings decide refusal 10
pub neither : (bytes : List ℕ) → opens (claim_opening clm1) bytes ≡ false → opens (claim_opening clm2) bytes ≡ false → (f : Form) → Opens (claim_opening f) bytes → ⊥
neither bytes i e clm1 o = fails (opens_tells (claim_opening clm1) bytes) i o
neither bytes i e clm2 o = fails (opens_tells (claim_opening clm2) bytes) e o

pub claim_closed : (bytes : List ℕ) → opens (claim_opening clm1) bytes ≡ false → opens (claim_opening clm2) bytes ≡ false → read_claim_lem bytes ≡ refused 10 0
claim_closed bytes i e = closed bytes (neither bytes i e)
