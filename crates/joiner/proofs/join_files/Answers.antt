-- `join_files` meets its contract: the first input's refusal, the second's, and else what two accepted inputs get.
use mathlib.Core.Path.{◌≡◌, refl, sym, ap, ◌∙◌}
use mathlib.Core.List.{List}
use Prim.Native.Nat.{ℕ}
use Rattle.verdict.specs.Verdict as verdicts
use Rattle.verdict.specs.Verdict.{Verdict, accepted}
use Rattle.verdict.specs.VerdictLaws.{accepted_not_refused}
use Rattle.verdict.specs.ScanLaws.{after}
use Rattle.encoding.specs.File.{Reading, refused}
use Rattle.reader.specs.Files.{firstly}
use Rattle.demands.specs.Join.{half_verdict, join_files_lem}
use Rattle.joined_files.specs.Wholly.{wholly_refused, wholly_as}
use Rattle.joiner.specs.Reading.{both_read_lem}
use Rattle.joiner.proofs.join_files.Goals as goal

-- what stands before what stands before
twice : {A : Type 0} (v w : Verdict) (x : Reading A) → firstly v (firstly w x) ≡ firstly (after v w) x
twice accepted w x = refl
twice (verdicts.refused n q) w x = refl

both : (v w : Verdict) → accepted ≡ after v w → (v ≡ accepted) × (w ≡ accepted)
both accepted w h = (refl, sym h)
both (verdicts.refused n q) w h = absurd (accepted_not_refused (sym h))

module _ (e : ℕ) (claim proof other-claim other-proof : List ℕ) (claim-room proof-room : ℕ) where
  by_halves : join_files_lem e claim proof other-claim other-proof claim-room proof-room
      ≡ firstly (after (half_verdict claim proof) (half_verdict other-claim other-proof)) (both_read_lem e claim proof other-claim other-proof claim-room proof-room)
  unfolding join_files_lem
  by_halves = twice (half_verdict claim proof) (half_verdict other-claim other-proof) (both_read_lem e claim proof other-claim other-proof claim-room proof-room)

  behind : {v : Verdict} → v ≡ after (half_verdict claim proof) (half_verdict other-claim other-proof)
      → join_files_lem e claim proof other-claim other-proof claim-room proof-room ≡ firstly v (both_read_lem e claim proof other-claim other-proof claim-room proof-room)
  behind h = by_halves ∙ ap (λ (v : Verdict). firstly v (both_read_lem e claim proof other-claim other-proof claim-room proof-room)) (sym h)

pub join_accepted-requires : goal.join_accepted-requires
join_accepted-requires c = both _ _ c.in-Ok.ensures

pub returns-in-Ok : goal.returns-in-Ok
returns-in-Ok c = wholly_as (behind _ _ _ _ _ _ _ c.in-Ok.ensures) c.join_accepted.ensures

pub returns-in-Err : goal.returns-in-Err
returns-in-Err c = wholly_refused (behind _ _ _ _ _ _ _ c.in-Err.ensures) c.refuse.ensures
