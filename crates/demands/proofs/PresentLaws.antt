-- presenting accepts as the verdict does, and then the gate holds the tag it was given
use Rattle.std.specs.Prelude.{◌≡◌, Bool, List, ℕ}
use Rattle.std.proofs.Math.Path.{refl}
use Rattle.std.proofs.Common.{ap}
use Rattle.std.proofs.Math.Bool.{true, false}
use Rattle.verdict.specs.Verdict.{Verdict, accepted}
use Rattle.verdict.specs.VerdictLaws.{accepted_not_refused}
use Rattle.encoding.specs.File as file
use Rattle.encoding.specs.File.{Reading, good}
use Rattle.formula.specs.Claim.{Derivation}
use Rattle.reader.specs.Files.{Files, files}
use Rattle.permit.specs.GateState.{Gate, closed, opened, holding}
use Rattle.demands.specs.Slices.{Lent, short}
use Rattle.demands.specs.Check.{answer, verdict}
use Rattle.demands.specs.Present.{held, presented_by, if_long, presenting}
use Rattle.demands.specs.PresentLaws.{Granted, not_short_long}

module _ (tag : ℕ) (claim proof : List ℕ) (l : Lent) where
  -- a check's answer is presenting's, where nothing stands before it
  by_check : (r : Reading (Files Derivation)) → (presented_by r tag l).answer ≡ answer r
  by_check (file.refused n q) = refl
  by_check (good f) = refl

  pub presented_verdict : short l ≡ false → (presenting opened tag claim proof l).answer ≡ verdict claim proof
  unfolding presenting verdict
  presented_verdict h = rw h (by_check (files claim proof))

  held_tag : (r : Reading (Files Derivation)) → (presented_by r tag l).answer ≡ accepted → (answer r ≡ accepted) × ((presented_by r tag l).gate ≡ holding tag)
  held_tag (file.refused n q) h = absurd (accepted_not_refused h)
  held_tag (good f) h = (h, ap (λ (v : Verdict). held v tag) h)

  if_long_lem : (b : Bool) → (if_long b l (presented_by (files claim proof) tag l)).answer ≡ accepted
      → (b ≡ false) × (answer (files claim proof) ≡ accepted) × ((if_long b l (presented_by (files claim proof) tag l)).gate ≡ holding tag)
  if_long_lem true h = absurd (accepted_not_refused h)
  if_long_lem false h = let (a, g) = held_tag (files claim proof) h in (refl, a, g)

  pub presented_granted : (g : Gate) → (presenting g tag claim proof l).answer ≡ accepted → Granted tag claim proof l g
  unfolding presenting verdict
  presented_granted closed h = absurd (accepted_not_refused h)
  presented_granted opened h =
      let (b, a, g) = if_long_lem (short l) h in
      record { was_open = refl; long = not_short_long l b; accepts = a; holds = g }
  presented_granted (holding old) h = absurd (accepted_not_refused h)
