-- what callers may rely on in the records of a claim file
use Rattle.std.specs.Prelude.{◌≡◌, refl, ℕ, ◌≤◌, length}
use Rattle.std.proofs.Common.{subst, inl, arith}
use mathlib.Core.List.{List, Memᴰ}
use Rattle.verdict.specs.EachLaws.{each_at, each_member}
use Rattle.formula.specs.Spelled.{unspelled, spelled, records_of}
use Rattle.formula.specs.Claim.{Form, clm1, clm2, fewest, SpelledClaim}
use Rattle.formula.specs.Codes.{Formula}
use Rattle.encoding.specs.Encode.{Counts}
use Rattle.claim_files.specs.ClaimFile.{FitEntry, GoalCount, ClaimFile}

module _ {bytes : List ℕ} {c : SpelledClaim} (f : ClaimFile bytes c) where
  pub entry_count : Counts (fewest c.form) 256 (length c.spelling)
  entry_count = f.fits.entries.count

  pub goal_count : length c.goals ≤ 16
  goal_count = go c.form f.fits.goals.count
    where
      go : (g : Form) → GoalCount g (length c.goals) → length c.goals ≤ 16
      go clm1 h = omega arith
      go clm2 h = h.1

  pub one_goal_lem : c.form ≡ clm1 → length c.goals ≡ 1
  one_goal_lem e = subst (λ (g : Form). GoalCount g (length c.goals)) e f.fits.goals.count

  pub member_count : (g : List ℕ) → Memᴰ g c.goals → Counts 1 24 (length g)
  member_count g h = (each_member f.fits.goals.each g h).count

  pub member_formula : (g : List ℕ) → Memᴰ g c.goals → (m : ℕ) → Memᴰ m g → Formula (records_of c.spelling) m
  member_formula g h = each_member (each_member f.fits.goals.each g h).each

  -- past the last entry nothing is spelled, and fits too
  pub entry_fits : (e : ℕ) → FitEntry (spelled c.spelling e)
  entry_fits e = each_at unspelled (record { known = omega arith; fits = inl refl; a_fits = refl; b_fits = refl }) f.fits.entries.each e
